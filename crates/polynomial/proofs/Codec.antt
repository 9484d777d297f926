-- Reading terms: what is read is what would be written.
use Rattle.std.proofs.Common.{◌≡◌, ℕ, ◌+◌, ◌-◌, ◌*◌, ◌/◌, ◌%◌, ◌<◌, ◌≤◌, List, [], ◌∷◌, ◌++◌, length, get_or, take, drop, Ok, Err, vec_items, Result, sym, refl, ap, ◌∙◌, subst, ap₂, ⊎_elim, arith}
use mathlib.Core.List.Memᴰ
use borrow.Rule.Slice.PartMut.{put_mid}
use Rattle.std.proofs.lemmas.List.{append-nil, append_assoc, length-append, take_more, take_at, drop_at, drop-drop}
use Rattle.polynomial.specs.declared.term.Term.{Term}
use Rattle.monomial.specs.Monomial.{Wide}
use Rattle.polynomial.specs.Polynomial.{Poly, exponents}
use Rattle.polynomial.specs.Bytes.{term_bytes, poly_bytes}
use Rattle.polynomial.specs.declared.bytes.NoRun.{NoRun}
use Rattle.polynomial.specs.declared.bytes.NoRun.TheVariants.{Cut as CutAt, Memory}
use Rattle.polynomial.specs.Reading.{Wides, StartsNoTerm, EndsInside, Run, ReadsRun, IsRun, ReadsBack}

-- one term more at the end
pub bytes_push : (f : Poly) (t : Term) → poly_bytes (f ++ (t ∷ [])) ≡ poly_bytes f ++ term_bytes t
bytes_push [] t = append-nil (term_bytes t)
bytes_push (s ∷ f) t = ap (λ x. term_bytes s ++ x) (bytes_push f t) ∙ sym (append_assoc (term_bytes s) (poly_bytes f) (term_bytes t))

wides_push : (f : Poly) (t : Term) → Wides f → Wide (exponents t) → Wides (f ++ (t ∷ []))
wides_push [] t w h s m = ⊎_elim (λ e. subst (λ x. Wide (exponents x)) (sym e) h) (λ n. elim n [ ]) (Memᴰ.cases_cons m)
wides_push (u ∷ f) t w h s m = ⊎_elim (λ e. subst (λ x. Wide (exponents x)) (sym e) (w u (Memᴰ.head refl))) (wides_push f t (λ x n. w x (Memᴰ.tail n)) h s) (Memᴰ.cases_cons m)

-- a run of f in the input, and the term behind it
pub run_more : (input rest behind : List ℕ) (f g : Poly) (t : Term) → Wides f × (input ≡ poly_bytes f ++ rest) → Wide (exponents t) × (rest ≡ term_bytes t ++ behind) → g ≡ f ++ (t ∷ []) →
    Wides g × (input ≡ poly_bytes g ++ behind)
run_more input rest behind f g t h k e = (
  subst Wides (sym e) (wides_push f t h.0 k.0),
  h.1 ∙ ap (λ x. poly_bytes f ++ x) k.1 ∙ sym (append_assoc (poly_bytes f) (term_bytes t) behind) ∙ sym (ap (λ x. poly_bytes x ++ behind) e ∙ ap (λ x. x ++ behind) (bytes_push f t)),
)

pub run_within : (input rest : List ℕ) (f : Poly) → input ≡ poly_bytes f ++ rest → length input ≡ length (poly_bytes f) + length rest
run_within input rest f e = ap length e ∙ length-append (poly_bytes f) rest

-- what writing one term more leaves of the lent bytes
pub write_more : (terms : Poly) (lent out : List ℕ) (i : ℕ) (bytes : List ℕ) (d : Term) → i < length terms → length lent ≡ length out → length terms * 9 ≤ length lent →
    out ≡ poly_bytes (take i terms) ++ drop (i * 9) lent → length (poly_bytes (take i terms)) ≡ i * 9 → bytes ≡ term_bytes (get_or terms i d) → length bytes ≡ 9 →
    (put_mid (i * 9) ((i * 9 + 9) - i * 9) out bytes ≡ poly_bytes (take (i + 1) terms) ++ drop ((i + 1) * 9) lent) × (length (poly_bytes (take (i + 1) terms)) ≡ (i + 1) * 9)
write_more terms lent out i bytes d h same room is wide b l =
    let P = poly_bytes (take i terms) in
    let more : poly_bytes (take (i + 1) terms) ≡ P ++ bytes = ap poly_bytes (take_more terms i d h) ∙ bytes_push (take i terms) (get_or terms i d) ∙ ap (λ x. P ++ x) (sym b) in
    let k : (i * 9 + 9) - i * 9 ≡ 9 = omega arith in
    let a : take (i * 9) out ≡ P = ap (take (i * 9)) is ∙ take_at P (drop (i * 9) lent) (i * 9) wide in
    let z : drop (i * 9) out ≡ drop (i * 9) lent = ap (drop (i * 9)) is ∙ drop_at P (drop (i * 9) lent) (i * 9) wide in
    let w : drop 9 (drop (i * 9) lent) ≡ drop ((i + 1) * 9) lent = drop-drop 9 (i * 9) lent ∙ ap (λ n. drop n lent) (omega arith) in (
      ap (λ n. put_mid (i * 9) n out bytes) k ∙ ap₂ (λ x y. x ++ (bytes ++ y)) a (ap (drop 9) z ∙ w) ∙ sym (append_assoc P bytes (drop ((i + 1) * 9) lent)) ∙ ap (λ x. x ++ drop ((i + 1) * 9) lent) (sym more),
      omega (arith, ap length more, length-append P bytes),
    )

-- two lists that begin with parts of one length
pub same_parts : {X : Type 0} (a b x y : List X) → length a ≡ length b → a ++ x ≡ b ++ y → (a ≡ b) × (x ≡ y)
same_parts [] [] x y l e = (refl, e)
same_parts [] (c ∷ b) x y l e = absurd (omega arith)
same_parts (c ∷ a) [] x y l e = absurd (omega arith)
same_parts (c ∷ a) (d ∷ b) x y l e =
    let r = same_parts a b x y (omega arith) (cc) in
    (cc r.0, r.1)

-- one string of bytes begins with one term at most
pub same_term : (t s : Term) (x y : List ℕ) → Wide (exponents t) → Wide (exponents s) → term_bytes t ++ x ≡ term_bytes s ++ y → (t ≡ s) × (x ≡ y)
same_term t s x y v w e =
    let a : t.coefficient / 256 ≡ s.coefficient / 256 = cc in
    let b : t.coefficient % 256 ≡ s.coefficient % 256 = cc in
    let c : t.coefficient ≡ s.coefficient = omega arith in
    let r = same_parts (exponents t) (exponents s) x y (v ∙ sym w) (cc) in
    ((λ i. record { coefficient = c i; monomial = record { exponents = r.0 i } }), r.1)

-- and with one run of terms, up to the first byte that begins none
module _ (x y : List ℕ) (ends : StartsNoTerm y) where
  pub run_once : (f g : Poly) → Wides f → Wides g → StartsNoTerm x → poly_bytes f ++ x ≡ poly_bytes g ++ y → (f ≡ g) × (x ≡ y)
  run_once [] [] v w n e = (refl, e)
  run_once [] (s ∷ g) v w n e = absurd (n (ap (λ l. get_or l 0 0) e))
  run_once (t ∷ f) [] v w n e = absurd (ends (sym (ap (λ l. get_or l 0 0) e)))
  run_once (t ∷ f) (s ∷ g) v w n e =
      let p = same_term t s (poly_bytes f ++ x) (poly_bytes g ++ y) (v t (Memᴰ.head refl)) (w s (Memᴰ.head refl)) (sym (append_assoc (term_bytes t) (poly_bytes f) x) ∙ e ∙ append_assoc (term_bytes s) (poly_bytes g) y) in
      let q = run_once f g (λ u m. v u (Memᴰ.tail m)) (λ u m. w u (Memᴰ.tail m)) n p.1 in
      ((λ i. p.0 i ∷ q.0 i), q.1)

  -- a run is not cut
  pub run_not_cut : (f g : Poly) → Wides f → Wides g → EndsInside x → poly_bytes f ++ x ≡ poly_bytes g ++ y → ⊥
  run_not_cut [] [] v w n e = ends (sym (ap (λ l. get_or l 0 0) e) ∙ n.0)
  run_not_cut [] (s ∷ g) v w n e = omega (arith, n.1, ap length e, length-append (poly_bytes (s ∷ g)) y, length-append (term_bytes s) (poly_bytes g), w s (Memᴰ.head refl))
  run_not_cut (t ∷ f) [] v w n e = ends (sym (ap (λ l. get_or l 0 0) e))
  run_not_cut (t ∷ f) (s ∷ g) v w n e =
      let p = same_term t s (poly_bytes f ++ x) (poly_bytes g ++ y) (v t (Memᴰ.head refl)) (w s (Memᴰ.head refl)) (sym (append_assoc (term_bytes t) (poly_bytes f) x) ∙ e ∙ append_assoc (term_bytes s) (poly_bytes g) y) in
      run_not_cut f g (λ u m. v u (Memᴰ.tail m)) (λ u m. w u (Memᴰ.tail m)) n p.1

-- what is read of bytes that hold a run
pub reads_back : (bytes rest : List ℕ) (f : Poly) (r : Result Run NoRun) → ReadsRun bytes r → IsRun bytes f rest → ReadsBack r f rest
reads_back bytes rest f (Ok run) h k = run_once run.1.now rest k.ends (vec_items run.0) f h.wide k.wide h.ends (sym h.written ∙ k.written)
reads_back bytes rest f (Err (CutAt offset)) h k = run_not_cut h.rest rest k.ends h.terms f h.wide k.wide h.ends (sym h.written ∙ k.written)
reads_back bytes rest f (Err Memory) h k = tt
