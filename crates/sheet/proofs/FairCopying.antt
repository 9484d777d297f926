-- The bytes of the copies, row by row.
use Rattle.std.proofs.Common.{◌≡◌, ℕ, ◌+◌, ◌-◌, ◌<◌, ◌≤◌, Bool, true, cond, List, [], ◌∷◌, ◌++◌, length, get_or, take, drop, Ok, Err, Result, sym, refl, ap, ◌∙◌, subst, ap₂, subst₂, append_assoc, append-nil, arith, length-append}
use Rattle.std.proofs.lemmas.List.{take_more, drop_more, drop_all}
use Rattle.std.proofs.lemmas.Bool.{cond-true}
use Rattle.polynomial.specs.declared.term.Term.{Term}
use Rattle.polynomial.specs.Polynomial.{Poly}
use Rattle.polynomial.specs.Check.{most_terms}
use Rattle.polynomial.specs.Bytes.{term_bytes, poly_bytes, copy_bytes}
use Rattle.polynomial.proofs.Codec.{bytes_push}
use Rattle.involutive.specs.Reduction.{Table, row, Refusal, refuse, refused, Reduces}
use Rattle.involutive.specs.Sheet.{Setting, State, Closed}
use Rattle.involutive.specs.Answers.{Copied, Copies, copies, copy_refused, copy_end, copy_stuck, copy_later, copy_row, Selection, FairCopies, copy_denied, copy_short, copy_written, copied_answer, denied, front}
use Rattle.calls.specs.declared.answer.Copied.{Copied as Counts}
use Rattle.calls.specs.declared.refusal.Refusal.{Refusal as Denial}
use Rattle.calls.specs.Told.{told, copied}
use Rattle.reduction.specs.declared.refusal.Denied.{Denied}
use Rattle.reduction.specs.Reducing.{Reduced, told as told_of}
use Rattle.sheet.specs.Copying.{RowCopied, RowsCopied, Delivered}

-- ---- the bytes of terms

pub push_more : (f : Poly) (i : ℕ) (d : Term) (old now new bytes : List ℕ) (b : Bool) → i < length f → now ≡ old ++ poly_bytes (take i f) → bytes ≡ term_bytes (get_or f i d) → b ≡ true → new ≡ cond b (now ++ bytes) now → new ≡ old ++ poly_bytes (take (i + 1) f)
push_more f i d old now new bytes b h e t s n =
    let P = poly_bytes (take i f) in
    let more : poly_bytes (take (i + 1) f) ≡ P ++ bytes = ap poly_bytes (take_more f i d h) ∙ bytes_push (take i f) (get_or f i d) ∙ ap (λ x. P ++ x) (sym t) in
    n ∙ cond-true b _ _ s ∙ ap (λ x. x ++ bytes) e ∙ append_assoc old P bytes ∙ ap (λ x. old ++ x) (sym more)

pub bytes_append : (f g : Poly) → poly_bytes (f ++ g) ≡ poly_bytes f ++ poly_bytes g
bytes_append [] g = refl
bytes_append (t ∷ f) g = ap (λ x. term_bytes t ++ x) (bytes_append f g) ∙ sym (append_assoc (term_bytes t) (poly_bytes f) (poly_bytes g))

-- leading term, then what is left of the others, then the closing byte
pub row_bytes : (f g first rest : Poly) (old b₁ b₂ b₃ : List ℕ) → first ≡ take 1 f → rest ≡ g → b₁ ≡ old ++ poly_bytes first → b₂ ≡ b₁ ++ poly_bytes rest → b₃ ≡ b₂ ++ (2 ∷ []) → b₃ ≡ old ++ (poly_bytes (take 1 f ++ g) ++ (2 ∷ []))
row_bytes f g first rest old b₁ b₂ b₃ p q e₁ e₂ e₃ =
    let A = poly_bytes (take 1 f) in
    let B = poly_bytes g in
    let d₁ : b₁ ≡ old ++ A = e₁ ∙ ap (λ x. old ++ poly_bytes x) p in
    let d₂ : b₂ ≡ (old ++ A) ++ B = e₂ ∙ ap (λ x. b₁ ++ poly_bytes x) q ∙ ap (λ x. x ++ B) d₁ in
    e₃ ∙ ap (λ x. x ++ (2 ∷ [])) (d₂ ∙ append_assoc old A B ∙ ap (λ x. old ++ x) (sym (bytes_append (take 1 f) g))) ∙ append_assoc old (poly_bytes (take 1 f ++ g)) (2 ∷ [])

-- a copy whose tail is not reduced is denied
pub row_denied : (S : Setting) (T : Table) (f : Poly) {g : Poly} {d : Denied} (e : Denial) (old new : List ℕ) → told e ≡ told_of d → Reduced S T (most_terms - 1) (drop 1 f) (Err d) g → RowCopied S T f (Err e) old new
row_denied S T f e old new q R = subst (λ r. Reduces S.field S.order S.division S.variables T (most_terms - 1) (drop 1 f) (refused r)) (sym q) R.comes

-- ---- the copies of the rows before i

-- copies in front of what the later rows come to
abbrev pub ahead : List Poly → Copied → Copied
ahead fs (copies gs) = copies (fs ++ gs)
ahead fs (copy_refused r) = copy_refused r

ahead_more : (fs : List Poly) (f : Poly) (o : Copied) → ahead fs (ahead (f ∷ []) o) ≡ ahead (fs ++ (f ∷ [])) o
ahead_more fs f (copies gs) = ap copies (sym (append_assoc fs (f ∷ []) gs))
ahead_more fs f (copy_refused r) = refl

copies_push : (fs : List Poly) (f : Poly) → copy_bytes (fs ++ (f ∷ [])) ≡ copy_bytes fs ++ (poly_bytes f ++ (2 ∷ []))
copies_push [] f = refl
copies_push (x ∷ fs) f = ap (λ y. poly_bytes x ++ (2 ∷ y)) (copies_push fs f) ∙ sym (append_assoc (poly_bytes x) (2 ∷ copy_bytes fs) (poly_bytes f ++ (2 ∷ [])))

module _ (S : Setting) (s : State) where
  -- the bytes are those of the first i copies, and whatever the later rows come to, all come to that behind these copies
  pub record Progress (ks : List ℕ) (i : ℕ) (bytes : List ℕ) : Type 0 where
    pub fs : List Poly
    pub are : bytes ≡ copy_bytes fs
    pub counted : length fs ≡ i
    pub goes : (o : Copied) → Copies S s (drop i ks) o → Copies S s ks (ahead fs o)

module _ {S : Setting} {s : State} where
  pub progress_more : {ks : List ℕ} {i : ℕ} {old new : List ℕ} → i < length ks → Progress S s ks i old → RowCopied S s.rows (row s.rows (get_or ks i 0)) (Ok tt) old new → Progress S s ks (i + 1) new
  progress_more {ks = ks} {i = i} h P (g, R, n) = record {
    fs = P.fs ++ (copy ∷ []);
    are = n ∙ ap (λ x. x ++ (poly_bytes copy ++ (2 ∷ []))) P.are ∙ sym (copies_push P.fs copy);
    counted = length-append P.fs (copy ∷ []) ∙ ap (λ x. x + 1) P.counted;
    goes = λ o c. subst (Copies S s ks) (ahead_more P.fs copy o) (P.goes (ahead (copy ∷ []) o) (subst (λ x. Copies S s x (ahead (copy ∷ []) o)) (sym (drop_more ks i 0 h)) (one o c)));
  }
    where
      copy : Poly
      copy = take 1 (row s.rows (get_or ks i 0)) ++ g

      one : (o : Copied) → Copies S s (drop (i + 1) ks) o → Copies S s (get_or ks i 0 ∷ drop (i + 1) ks) (ahead (copy ∷ []) o)
      one (copies gs) c = copy_row R c
      one (copy_refused r) c = copy_later R c

  pub progress_denied : {ks : List ℕ} {i : ℕ} {old : List ℕ} {r : Refusal} → i < length ks → Progress S s ks i old → Reduces S.field S.order S.division S.variables s.rows (most_terms - 1) (drop 1 (row s.rows (get_or ks i 0))) (refused r) → Copies S s ks (copy_refused r)
  progress_denied {ks = ks} {i = i} {r = r} h P R = P.goes (copy_refused r) (subst (λ x. Copies S s x (copy_refused r)) (sym (drop_more ks i 0 h)) (copy_stuck R))

  pub progress_all : {ks : List ℕ} {i : ℕ} {bytes : List ℕ} → i ≡ length ks → Progress S s ks i bytes → RowsCopied S s ks (Ok tt) bytes
  progress_all {ks = ks} {i = i} e P = (
    P.fs,
    subst (λ x. Copies S s ks (copies x)) (append-nil P.fs) (P.goes (copies []) (subst (λ x. Copies S s x (copies [])) (sym (drop_all i ks (omega (arith, e)))) copy_end)),
    P.are,
    P.counted ∙ e,
  )

  -- ---- the answer, from the slices of the row numbers and of the bytes

  pub fair_denied : {slice ks out : List ℕ} {r : Refusal} → slice ≡ ks → Closed S s → Selection S s ks → Copies S s slice (copy_refused r) → FairCopies S s out (denied r) out
  fair_denied {r = r} e C P R = copy_denied C P (subst (λ x. Copies S s x (copy_refused r)) e R)

  pub fair_copied : {slice ks bytes lent out new : List ℕ} {m : ℕ} (r : Result Counts Denial) → slice ≡ ks → lent ≡ bytes → Closed S s → Selection S s ks → RowsCopied S s slice (Ok tt) bytes → m ≡ length ks → Delivered m lent out r new → FairCopies S s out (copied r) new
  fair_copied {ks = ks} {bytes = bytes} {out = out} {new = new} {m = m} r e l C P R k D = go r (subst (λ x. RowsCopied S s x (Ok tt) bytes) e R) (subst (λ x. Delivered m x out r new) l D)
    where
      go : (r : Result Counts Denial) → RowsCopied S s ks (Ok tt) bytes → Delivered m bytes out r new → FairCopies S s out (copied r) new
      go (Ok c) (fs, R, e, n) (p, q, l, w) =
          let x : copied_answer (length fs) (length (copy_bytes fs)) ≡ copied_answer c.rows c.bytes = ap₂ copied_answer (n ∙ sym k ∙ sym p) (ap length (sym e) ∙ sym q) in
          let y : front (copy_bytes fs) out ≡ new = ap (λ b. front b out) (sym e) ∙ sym w in
          subst₂ (FairCopies S s out) x y (copy_written C P R (subst (λ b. length b ≤ length out) e l))
      go (Err d) (fs, R, e, n) (p, l, w) =
          let x : denied (refuse 14 (length (copy_bytes fs))) ≡ denied (told d) = ap (λ b. denied (refuse 14 (length b))) (sym e) ∙ ap denied (sym p) in
          subst₂ (FairCopies S s out) x (sym w) (copy_short C P R (subst (λ b. length out < length b) e l))
