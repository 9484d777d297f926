-- Equal copies of closed sheets and one ideal are the same thing, whatever the divisions.
use Rattle.std.proofs.Common.{◌≡◌, ℕ, suc, ◌-◌, ◌≤◌, List, [], ◌∷◌, ◌++◌, length, get_or, take, drop, sym, refl, ap, ◌∙◌, subst, arith}
use mathlib.Core.List.{Memᴰ}
use lib.ListN.{length-map}
use Rattle.std.proofs.lemmas.List.{get_or-map}
use lib.Seq.{take-append_seam}
use Rattle.polynomial.specs.declared.term.Term.{Term}
use Rattle.monomial.specs.Monomial.{In, Wide, times, quotient, Divides}
use Rattle.monomial.specs.Order.{Under}
use Rattle.monomial.specs.Division.{Split, DivisionLaws, Within, Involutive}
use Rattle.polynomial.specs.Reading.{Wides}
use Rattle.polynomial.specs.Polynomial.{Poly, Over, term, exponents, Written, leading}
use Rattle.involutive.specs.Value.{scaled, minus}
use Rattle.involutive.specs.Ideal.{Member, SameIdeal}
use Rattle.involutive.specs.Reduction.{row, leaders, Irreducible}
use Rattle.involutive.specs.Sheet.{Setting, State, Closed, Lawful}
use Rattle.involutive.specs.Answers.{Answer, copied_answer, front, Minimal, Selection, Copies, copies, FairCopies, copy_open, copy_denied, copy_short, copy_written}
use Rattle.polynomial.specs.Bytes.{copy_bytes}
use Rattle.involutive.specs.Log.{Call, After}
use Rattle.involutive.specs.Complete.{GrantedCopy, under_division, CopiesDecide}
use Rattle.monomial.specs.Places.{agree_all, low}
use Rattle.involutive.proofs.Lists
use Rattle.involutive.proofs.Monomials
use Rattle.involutive.proofs.Typing.{ground_of, words}
use Rattle.involutive.proofs.Ideals
use Rattle.involutive.proofs.Bytes
use Rattle.involutive.proofs.Copying.{CopyOf, Beside, no_more, one_more, beside, copy_from, copy_to}
use Rattle.involutive.proofs.Soundness
use Rattle.involutive.specs.Sound.{Sound}
use Rattle.involutive.proofs.Sheets
use Rattle.involutive.proofs.KeptIdeal
use Rattle.involutive.proofs.WrittenLists

divides_trans : (u m n : List ℕ) → Divides u m → Divides m n → Divides u n
divides_trans u m n h k v = omega (arith, h v, k v)

divides_both : (u m : List ℕ) → Wide u → Wide m → Divides u m → Divides m u → u ≡ m
divides_both u m a b h k = agree_all u m (a ∙ sym b) (λ i l.
    let p : get_or u i 0 ≤ get_or m i 0 = rw (low i) at (h (suc i)) in
    let q : get_or m i 0 ≤ get_or u i 0 = rw (low i) at (k (suc i)) in
    omega arith)

-- the bytes of a granted fair copy are those of the copied rows
record CopiedBytes (S : Setting) (s : State) (b : List ℕ) : Type 0 where
  ks : List ℕ
  fs : List Poly
  selection : Selection S s ks
  copied : Copies S s ks (copies fs)
  bytes : b ≡ copy_bytes fs

granted : (S : Setting) (s : State) (b : List ℕ) → GrantedCopy S s b → CopiedBytes S s b
granted S s b G = go G.grant refl G.front
  where
    go : {a : Answer} {after : List ℕ} → FairCopies S s G.out a after → a ≡ copied_answer G.rows (length b) → take (length b) after ≡ b → CopiedBytes S s b
    go (copy_open n) e d = cc
    go (copy_denied c z m) e d = cc
    go (copy_short c z m l) e d = cc
    go (copy_written {ks = ks} {fs = fs} c z m l) e d =
        let n : length (copy_bytes fs) ≡ length b = cc in
        record { ks = ks; fs = fs; selection = z; copied = m; bytes = sym d ∙ ap (λ i. take i (front (copy_bytes fs) G.out)) (sym n) ∙ take-append_seam (copy_bytes fs) (drop (length (copy_bytes fs)) G.out) }

module _ (S : Setting) (W : Lawful S) where
  open S use {field as F, variables as N, order as O}
  open W use {field as L, order as Q}
  open words (ground_of S W) use {ground}

  abbrev set : Split → Setting
  set D = under_division S D

  abbrev lawful : {D : Split} → DivisionLaws D → Lawful (set D)
  lawful E = record { field = L; order = Q; division = E; variables = W.variables }

  -- a closed sheet and its copies
  record Side (D : Split) (E : DivisionLaws D) : Type 0 where
    s : State
    sound : Sound (set D) s
    closed : Closed (set D) s
    ks : List ℕ
    fs : List Poly
    selection : Selection (set D) s ks
    copied : Beside (set D) s ks fs

  module _ {D : Split} {E : DivisionLaws D} (A : Side D E) where
    abbrev leader : ℕ → List ℕ
    leader k = leading (row A.s.rows k)

    abbrev InRows : ℕ → Type 0
    InRows k = Within k (length A.s.rows)

    wide_leader : (k : ℕ) → Wide (leader k)
    wide_leader k = Soundness.row_wide (set D) (lawful E) A.sound k

    -- the first term of a row, and of its copy
    record First (k : ℕ) : Type 0 where
      tail : Poly
      is : row A.s.rows k ≡ term 1 (leader k) ∷ tail
      good : Written F O N (row A.s.rows k)

    first : (k : ℕ) → InRows k → First k
    first k w =
        let r = Soundness.row_at (set D) (lawful E) A.sound k w in
        let p = Soundness.first_term (set D) (lawful E) (row A.s.rows k) r in
        record { tail = p.0; is = p.1; good = r.acceptable.written }

    rows_over : Ideals.Overs F N A.s.rows
    rows_over = Sheets.rows_over (set D) (lawful E) A.sound

    row_member : (k : ℕ) → InRows k → Member F N A.s.rows (row A.s.rows k)
    row_member k w = Ideals.member_generator ground A.s.rows rows_over (row A.s.rows k) (Lists.entry_member [] A.s.rows (k - 1) (omega arith))

    in_rows : (k : ℕ) → Memᴰ k A.ks → InRows k
    in_rows k h = ((A.selection.minimal k).0 h).within

    copy_is : (k : ℕ) {f : Poly} → InRows k → (c : CopyOf (set D) A.s k f) → f ≡ term 1 (leader k) ∷ c.rest
    copy_is k w c = c.is ∙ ap (λ x. take 1 x ++ c.rest) (first k w).is

    -- what is written, a member, and starts with a monomial, shows a row that divides it
    record Row (m : List ℕ) : Type 0 where
      k : ℕ
      within : InRows k
      divides : Divides (leader k) m

    shown : (t : Term) (f : Poly) → Written F O N (t ∷ f) → Member F N A.s.rows (t ∷ f) → Row (exponents t)
    shown t f w h =
        let r = Sheets.lead_divisor (set D) (lawful E) A.s A.sound A.closed t f w h in
        let v : InRows r.0 = rw (length-map A.s.rows leading) at r.1.within in
        record { k = r.0; within = v; divides = subst (λ x. Divides x (exponents t)) (get_or-map leading A.s.rows (r.0 - 1) [] [] (omega arith)) r.1.divides }

  abbrev Inside : {D D' : Split} {E : DivisionLaws D} {E' : DivisionLaws D'} → Side D E → Side D' E' → Type 0
  Inside A C = (f : Poly) → Over F N f → Member F N A.s.rows f → Member F N C.s.rows f

  module _ {D D' : Split} {E : DivisionLaws D} {E' : DivisionLaws D'} (A : Side D E) (C : Side D' E') (i : Inside A C) where
    covers : (k : ℕ) → InRows A k → Row C (leader A k)
    covers k w = let r = first A k w in shown C (term 1 (leader A k)) r.tail (subst (Written F O N) r.is r.good) (subst (Member F N C.s.rows) r.is (i (row A.s.rows k) r.good.over (row_member A k w)))

  module _ {D D' : Split} {E : DivisionLaws D} {E' : DivisionLaws D'} (A : Side D E) (C : Side D' E') (i : Inside A C) (j : Inside C A) where
    -- a row of C that is as low as a minimal row of A
    record Twin (k : ℕ) : Type 0 where
      k' : ℕ
      minimal : Minimal (set D') C.s k'
      same : leader A k ≡ leader C k'

    -- a row of C whose leading monomial divides that of a minimal row of A
    equals : (k : ℕ) → Minimal (set D) A.s k → (n : ℕ) → InRows C n → Divides (leader C n) (leader A k) → leader A k ≡ leader C n
    equals k m n w d =
        let r = covers C A j n w in
        let e : r.k ≡ k = m.undivided r.k r.within (divides_trans (leader A r.k) (leader C n) (leader A k) r.divides d) in
        divides_both (leader A k) (leader C n) (wide_leader A k) (wide_leader C n) (subst (λ x. Divides (leader A x) (leader C n)) e r.divides) d

    twin : (k : ℕ) → Minimal (set D) A.s k → Twin k
    twin k m =
        let r = covers A C i k m.within in
        let e : leader A k ≡ leader C r.k = equals k m r.k r.within r.divides in
        record {
          k' = r.k;
          minimal = record {
            within = r.within;
            undivided = λ n w d. C.sound.once n r.k w r.within (sym (equals k m n w (subst (Divides (leader C n)) (sym e) d)) ∙ e);
          };
          same = e;
        }

    -- what is irreducible for one table is irreducible for the other
    irreducible : (g : Poly) → Written F O N g → Irreducible F O D' N C.s.rows g → Irreducible F O D N A.s.rows g
    irreducible g w h t m k v =
        let n : InRows A k = rw (length-map A.s.rows leading) at v.within in
        let f = first A k n in
        let c : In N (exponents t) = (w.over t m).1 in
        let a : List ℕ = quotient (exponents t) (leader A k) in
        let an : In N a = Monomials.in_quotient (leader A k) c (wide_leader A k) in
        let l : Divides (leader A k) (exponents t) = subst (λ x. Divides x (exponents t)) (get_or-map leading A.s.rows (k - 1) [] [] (omega arith)) v.divides in
        let p : Poly = scaled F 1 a (row A.s.rows k) in
        let pw : Written F O N p = WrittenLists.written_scaled ground 1 a (omega arith) L.differ an (row A.s.rows k) f.good in
        let pm : Member F N A.s.rows p = Ideals.member_scaled ground 1 a L.differ an A.s.rows (rows_over A) (row A.s.rows k) f.good.over (row_member A k n) in
        let e : p ≡ scaled F 1 a (term 1 (leader A k) ∷ f.tail) = ap (scaled F 1 a) f.is in
        let r = Sheets.lead_divisor (set D') (lawful E') C.s C.sound C.closed (term (F.mul 1 1) (times a (leader A k))) (scaled F 1 a f.tail) (subst (Written F O N) e pw) (subst (Member F N C.s.rows) e (i p pw.over pm)) in
        let q : times a (leader A k) ≡ exponents t = Monomials.times_comm a (leader A k) ∙ Monomials.times_quotient (leader A k) (exponents t) (wide_leader A k ∙ sym c.wide) (λ x. rw (low x) at (l (suc x))) in
        h t m r.0 (subst (Involutive D' (leaders C.s.rows) r.0) q r.1)

    -- every copy of A is one of C
    into : (f : Poly) → Memᴰ f A.fs → Memᴰ f C.fs
    into f h =
        let a = copy_from (set D) A.s A.copied f h in
        let m = (A.selection.minimal a.k).0 a.stands in
        let t = twin a.k m in
        let c = copy_to (set D') C.s C.copied t.k' ((C.selection.minimal t.k').1 t.minimal) in
        let x = Soundness.reduces_written (set D) (lawful E) a.copy.reduced (Soundness.tail_written (set D) (lawful E) A.sound a.k) a.copy.rest refl in
        let y = Soundness.reduces_written (set D') (lawful E') c.copy.reduced (Soundness.tail_written (set D') (lawful E') C.sound t.k') c.copy.rest refl in
        let e : f ≡ term 1 (leader A a.k) ∷ a.copy.rest = copy_is A a.k m.within a.copy in
        let d : c.f ≡ term 1 (leader A a.k) ∷ c.copy.rest = copy_is C t.k' t.minimal.within c.copy ∙ ap (λ z. term 1 z ∷ c.copy.rest) (sym t.same) in
        let u = Sheets.fair (set D) (lawful E) A.s A.sound a.k m.within a.copy in
        let v = Sheets.fair (set D') (lawful E') C.s C.sound t.k' t.minimal.within c.copy in
        let o : Over F N (term 1 (leader A a.k) ∷ a.copy.rest) = subst (Over F N) e u.good.over in
        let n : Member F N A.s.rows (minus F a.copy.rest c.copy.rest) = Ideals.member_tails ground (term 1 (leader A a.k)) (o _ (Memᴰ.head refl)) A.s.rows (rows_over A) a.copy.rest x.0.over c.copy.rest y.0.over (subst (Member F N A.s.rows) e u.member) (subst (Member F N A.s.rows) d (j c.f v.good.over v.member)) in
        let g : a.copy.rest ≡ c.copy.rest = Sheets.one_remainder (set D) (lawful E) A.s A.sound A.closed a.copy.rest c.copy.rest x.0 y.0 x.1 (irreducible c.copy.rest y.0 y.1) n in
        subst (λ z. Memᴰ z C.fs) (d ∙ ap (λ z. term 1 (leader A a.k) ∷ z) (sym g) ∙ sym e) c.stands

  -- the copies rise
  abbrev Lower : Poly → Poly → Type 0
  Lower f g = Wide (leading f) × Wide (leading g) × Under O (leading f) (leading g)

  lower_asym : (f g : Poly) → Lower f g → Lower g f → ⊥
  lower_asym f g a b = WrittenLists.under_asym Q (leading f) (leading g) a.0 a.1 a.2 b.2

  module _ {D : Split} {E : DivisionLaws D} (A : Side D E) where
    leads : (k : ℕ) {f : Poly} → InRows A k → CopyOf (set D) A.s k f → leading f ≡ leader A k
    leads k w c = ap leading (copy_is A k w c)

    rise : {ks : List ℕ} {fs : List Poly} → Lists.Up (λ j k. Under O (leader A j) (leader A k)) ks → Beside (set D) A.s ks fs → ((k : ℕ) → Memᴰ k ks → InRows A k) → Lists.Up Lower fs
    rise Lists.up_nil no_more w = Lists.up_nil
    rise (Lists.up_cons u p) (one_more {k = k} {f = f} c b) w = Lists.up_cons
        (λ g h. let r = copy_from (set D) A.s b g h in
        let x : leading f ≡ leader A k = leads k (w k (Memᴰ.head refl)) c in
        let y : leading g ≡ leader A r.k = leads r.k (w r.k (Memᴰ.tail r.stands)) r.copy in
        (rw x (wide_leader A k), rw y (wide_leader A r.k), rw (x, y) (u r.k r.stands)))
        (rise p b (λ k h. w k (Memᴰ.tail h)))

    rising : Lists.Up Lower A.fs
    rising = rise (Soundness.rising_up (set D) (lawful E) A.sound A.selection.rising) A.copied (in_rows A)

    wides : (f : Poly) → Memᴰ f A.fs → Wides f
    wides f h t m = let a = copy_from (set D) A.s A.copied f h in ((Sheets.fair (set D) (lawful E) A.s A.sound a.k (in_rows A a.k a.stands) a.copy).good.over t m).1.wide

  same_copies : {D D' : Split} {E : DivisionLaws D} {E' : DivisionLaws D'} (A : Side D E) (C : Side D' E') → Inside A C → Inside C A → A.fs ≡ C.fs
  same_copies A C i j = Lists.up_eq Lower lower_asym (rising A) (rising C) (into A C i j) (into C A j i)

  -- a sheet that a log has closed, with its granted copy
  module _ {D : Split} (E : DivisionLaws D) {calls : List Call} {s : State} {gs : List Poly} (a : After (set D) calls s gs) (c : Closed (set D) s) {b : List ℕ} (G : GrantedCopy (set D) s b) where
    side : Side D E
    side =
        let H = granted (set D) s b G in
        record { s = s; sound = Soundness.sound (set D) (lawful E) a; closed = c; ks = H.ks; fs = H.fs; selection = H.selection; copied = beside (set D) s H.copied }

    side_rows : SameIdeal F N s.rows gs
    side_rows = KeptIdeal.keeps_ideal (set D) (lawful E) calls s gs a

    side_copies : SameIdeal F N side.fs gs
    unfolding side
    side_copies = let H = granted (set D) s b G in Ideals.chain ground (Ideals.turned ground (Sheets.copies_ideal (set D) (lawful E) s (Soundness.sound (set D) (lawful E) a) c H.ks H.fs H.selection H.copied)) side_rows

    side_bytes : b ≡ copy_bytes side.fs
    unfolding side
    side_bytes = (granted (set D) s b G).bytes

  pub copies_decide : (D : Split) → DivisionLaws D → CopiesDecide S D
  unfolding side
  copies_decide D E calls calls' s s' gs hs a c a' c' b b' G G' =
      let A : Side S.division W.division = side W.division a c G in
      let C : Side D E = side E a' c' G' in
      let p : b ≡ copy_bytes A.fs = side_bytes W.division a c G in
      let q : b' ≡ copy_bytes C.fs = side_bytes E a' c' G' in (
        λ e.
            let d : A.fs ≡ C.fs = Bytes.same_copies A.fs C.fs (wides A) (wides C) (sym p ∙ e ∙ q) in
            Ideals.chain ground (Ideals.turned ground (side_copies W.division a c G)) (subst (λ fs. SameIdeal F N fs hs) (sym d) (side_copies E a' c' G')),
        λ h.
            let i : SameIdeal F N s.rows s'.rows = Ideals.chain ground (side_rows W.division a c G) (Ideals.chain ground h (Ideals.turned ground (side_rows E a' c' G'))) in
            p ∙ ap copy_bytes (same_copies A C (λ f o m. (i f o).0 m) (λ f o m. (i f o).1 m)) ∙ sym q,
      )
