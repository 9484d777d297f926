-- On a closed sheet remainders tell the ideal's classes apart.
use Rattle.std.proofs.Common.{◌≡◌, List, length, take, None, sym, refl, ap, ◌∙◌, subst}
use lib.Seq.{take-append_seam}
use Rattle.polynomial.specs.Polynomial.{Poly, Over, Written}
use Rattle.involutive.specs.Value.{Equal, plus, minus, negated, product}
use Rattle.involutive.specs.Ideal.{Member}
use Rattle.involutive.specs.Reduction.{left, Irreducible}
use Rattle.involutive.specs.Answers
use Rattle.involutive.specs.Sheet.{Setting, State, Closed, Lawful}
use Rattle.involutive.specs.Answers.{first_fault, ReducesTo, Answer, Remains, remainder_written, written}
use Rattle.polynomial.specs.Check.{most_terms}
use Rattle.involutive.specs.Complete.{Granted, RemaindersDecide, RemaindersAdd, RemaindersMultiply}
use Rattle.involutive.proofs.KeptIdeal
use Rattle.involutive.specs.Sound.{Sound}
use Rattle.involutive.specs.Log.{Call, After}
use Rattle.involutive.proofs.Soundness
use Rattle.involutive.proofs.Typing.{ground_of, words}
use Rattle.involutive.proofs.Ideals
use Rattle.involutive.proofs.Sheets

module _ (S : Setting) (W : Lawful S) where
  open S use {field as F, variables as N, order as O}
  open words (ground_of S W) use {ground}

  granted : {s : State} {f r : Poly} → Granted S s f r → (first_fault S f ≡ None) × ReducesTo S s most_terms f (left r)
  granted {s} {f} {r} G = go G.grant refl G.front
    where
      go : {a : Answer} {after : Poly} → Remains S s f G.out a after → a ≡ written (length r) → take (length r) after ≡ r → (first_fault S f ≡ None) × ReducesTo S s most_terms f (left r)
      go (Answers.remainder_open n) e d = cc
      go (Answers.remainder_faulty n x) e d = cc
      go (Answers.remainder_stuck n x y) e d = cc
      go (Answers.remainder_short n x y z) e d = cc
      go (remainder_written {g = g} n x y z) e d =
          let l : length g ≡ length r = cc in
          let k : g ≡ r = sym (take-append_seam g (lib.ListN.drop (length g) G.out)) ∙ ap (λ i. take i (Answers.front g G.out)) l ∙ d in
          (x, subst (λ g. ReducesTo S s most_terms f (left g)) k y)

  -- f and its remainder r, which differ by a member
  record Remainder (s : State) (f r : Poly) : Type 0 where
    whole : Written F O N f
    rest : Written F O N r
    irreducible : Irreducible F O S.division N s.rows r
    member : Member F N s.rows (minus F f r)

  remainder : {s : State} {f r : Poly} → Sound S s → Granted S s f r → Remainder s f r
  remainder {s} {f} {r} I G =
      let x = granted G in
      let w = (Soundness.no_fault S W f x.0).written in
      let v = Soundness.reduces_written S W x.1 w r refl in
      record { whole = w; rest = v.0; irreducible = v.1; member = Sheets.reduced_member S W I f r w x.1 }

  module _ {calls : List Call} {s : State} {gs : List Poly} (a : After S calls s gs) (c : Closed S s) where
    sound : Sound S s
    sound = Soundness.sound S W a

    rows_over : Ideals.Overs F N s.rows
    rows_over = Sheets.rows_over S W sound

    diff : (u v w : Poly) → Over F N u → Over F N v → Over F N w → Member F N s.rows (minus F u v) → Member F N s.rows (minus F v w) → Member F N s.rows (minus F u w)
    diff u v w ou ov ow = Ideals.member_diff ground s.rows rows_over u ou v ov w ow

    swap : (u v : Poly) → Over F N u → Over F N v → Member F N s.rows (minus F u v) → Member F N s.rows (minus F v u)
    swap u v ou ov = Ideals.member_swap ground s.rows rows_over u ou v ov

    -- where f − g is a member, the remainders are the same
    same_rests : (f g r t : Poly) → Remainder s f r → Remainder s g t → Member F N s.rows (minus F f g) → r ≡ t
    same_rests f g r t A C m =
        Sheets.one_remainder S W s sound c r t A.rest C.rest A.irreducible C.irreducible
        (diff r f t A.rest.over A.whole.over C.rest.over (swap f r A.whole.over A.rest.over A.member)
        (diff f g t A.whole.over C.whole.over C.rest.over m C.member))

    -- and the other way round
    same_class : (f g r t : Poly) → Remainder s f r → Remainder s g t → r ≡ t → Member F N s.rows (minus F f g)
    same_class f g r t A C e =
        diff f r g A.whole.over A.rest.over C.whole.over A.member
        (subst (λ r. Member F N s.rows (minus F r g)) (sym e) (swap g t C.whole.over C.rest.over C.member))

    -- differences of polynomials that stand for the same
    equal_member : (u v w x : Poly) → Over F N u → Over F N v → Over F N w → Over F N x → Equal F u v → Equal F w x → Member F N s.rows (minus F v x) → Member F N s.rows (minus F u w)
    equal_member u v w x ou ov ow ox e d = Ideals.member_equal ground (Ideals.equal_minus ground u ou v ov w ow x ox e d)

  pub decide : RemaindersDecide S
  decide calls s gs a c f g r t G H =
      let A = remainder (sound a c) G in
      let C = remainder (sound a c) H in
      let same = KeptIdeal.keeps_ideal S W calls s gs a (minus F f g) (Ideals.over_plus ground f (negated F g) A.whole.over (Ideals.over_negated ground g C.whole.over)) in
      (λ e. same.0 (same_class a c f g r t A C e), λ m. same_rests a c f g r t A C (same.1 m))

  pub multiply : RemaindersMultiply S
  multiply calls s gs a c f g h p r t u w e d G₁ G₂ G₃ G₄ =
      let A = remainder (sound a c) G₁ in
      let C = remainder (sound a c) G₂ in
      let X = remainder (sound a c) G₃ in
      let Y = remainder (sound a c) G₄ in
      same_rests a c h p u w X Y
      (equal_member a c h (product F f g) p (product F r t) X.whole.over (Ideals.over_product ground f A.whole.over g C.whole.over) Y.whole.over (Ideals.over_product ground r A.rest.over t C.rest.over) e d
      (Ideals.member_products ground s.rows (rows_over a c) f A.whole.over g C.whole.over r A.rest.over t C.rest.over A.member C.member))

  pub add : RemaindersAdd S
  add calls s gs a c f g h r t u e G₁ G₂ G₃ =
      let A = remainder (sound a c) G₁ in
      let C = remainder (sound a c) G₂ in
      let X = remainder (sound a c) G₃ in
      let o : Over F N (plus r t) = Ideals.over_plus ground r t A.rest.over C.rest.over in
      Sheets.sum_remainder S W s (sound a c) c u X.rest.over r A.rest.over t C.rest.over X.irreducible A.irreducible C.irreducible
      (diff a c u h (plus r t) X.rest.over X.whole.over o (swap a c h u X.whole.over X.rest.over X.member)
      (equal_member a c h (plus f g) (plus r t) (plus r t) X.whole.over (Ideals.over_plus ground f g A.whole.over C.whole.over) o o e (λ m. refl)
      (Ideals.member_sums ground s.rows (rows_over a c) f A.whole.over g C.whole.over r A.rest.over t C.rest.over A.member C.member)))
