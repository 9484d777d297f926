-- From a sound table and what the search finds to the turns of reducing.
use Rattle.std.proofs.Common.{◌≡◌, ℕ, zero, suc, ◌+◌, ◌-◌, ◌<◌, ◌≤◌, List, [], ◌∷◌, ◌++◌, length, get_or, take, drop, Some, None, Ok, Err, Result, sym, refl, ap, ◌∙◌, subst, append-nil, add-one, arith, length-append, take-append-drop, length-take}
use mathlib.Core.List.Memᴰ
use mathlib.Core.List.{Memᴰ}
use lib.ListN.{length-map}
use Rattle.std.proofs.lemmas.List.{get_or-map, get_or-take, drop_more, take_all}
use Rattle.monomial.specs.Monomial.{Wide, In, quotient}
use Rattle.monomial.specs.Division.{Split, Within, Involutive, member}
use Rattle.polynomial.specs.declared.term.Term.{Term}
use Rattle.polynomial.specs.Polynomial.{Poly, term, exponents, Written, leading, leading_coefficient}
use Rattle.polynomial.specs.Check.{Fits}
use Rattle.involutive.specs.Value.{scaled}
use Rattle.involutive.specs.Reduction.{Table, row, leaders, Reduces, left, refused, refuse}
use Rattle.involutive.proofs.Typing.{Ground}
use Rattle.involutive.proofs.Lists.{entry_member, member_entry}
use Rattle.reduction.specs.declared.buffer.NoRoom.{NoRoom}
use Rattle.reduction.specs.declared.refusal.Reason.{Reason}
use Rattle.reduction.specs.declared.refusal.Reason.TheVariants.{Wide as TooWide, Long}
use Rattle.reduction.specs.declared.table.Row.{Row}
use Rattle.reduction.specs.Table.{setting, terms_of, table_of, SoundRow, SoundTable}
use Rattle.reduction.specs.Search.{LeadDivides, NoRow, NoTerm, Finds}
use Rattle.reduction.specs.Subtraction.{Subtracted, Differs}
use Rattle.reduction.specs.Reducing.{number}
use Rattle.reduction.proofs.Acting
use Rattle.reduction.proofs.Acting.{Clean, Action}
use Rattle.reduction.proofs.AddingUp.{Extended, extend_all}
use Rattle.reduction.proofs.Mapping.{element}
use Rattle.reduction.proofs.Divisors.{involutive_yes, involutive_no}
use Rattle.reduction.proofs.Standing
use Rattle.reduction.proofs.Standing.{Stands, moved, ended}
use Rattle.reduction.proofs.Terms.{Each}

low : (i : ℕ) → suc i - 1 ≡ i
low i = omega arith

first_of : (f : Poly) → leading_coefficient f ≡ 1 → (l : Term) × (f ≡ l ∷ drop 1 f)
first_of [] e = absurd (let z : ◌≡◌ {A = ℕ} 0 1 = e in omega arith)
first_of (l ∷ f) e = (l, refl)

module _ (G : Ground) (D : Split) (rows : List Row) (sound : SoundTable (setting G.field G.order D G.variables) rows) (room : ℕ) where
  open G use {field as F, order as O, variables as n}

  abbrev T : Table
  T = table_of rows

  abbrev At : Poly → Poly → Poly → ℕ → Type 0
  At = Stands G D T room

  -- row i, counted from 0
  module _ (i : ℕ) (r : Row) (inside : i < length rows) (at : r ≡ get_or rows i r) where
    abbrev S : SoundRow (setting F O D n) T i r
    S = sound.each i r inside at

    row_is : row T (suc i) ≡ terms_of r
    row_is = subst (λ j. get_or T j [] ≡ terms_of r) (sym (low i)) (get_or-map terms_of rows i r [] inside ∙ ap terms_of (sym at))

    lead_is : member (leaders T) (suc i) ≡ r.lead.monomial.exponents
    lead_is = let h : suc i - 1 < length T = omega (arith, length-map rows terms_of) in get_or-map leading T (suc i - 1) [] [] h ∙ ap leading row_is ∙ sym S.lead

    within : Within (suc i) (length (leaders T))
    within = (omega arith, omega (arith, length-map rows terms_of, length-map T leading))

    split : terms_of r ≡ (first_of (terms_of r) S.good.monic).0 ∷ drop 1 (terms_of r)
    split = (first_of (terms_of r) S.good.monic).1

    wide : Wide (member (leaders T) (suc i))
    wide = ap length (lead_is ∙ S.lead ∙ ap leading split) ∙ ((subst (Written F O n) split S.good.acceptable.written).over (first_of (terms_of r) S.good.monic).0 (Memᴰ.head refl)).1.wide

    divisor_yes : (m : List ℕ) → Wide m → LeadDivides r.lead m → Involutive D (leaders T) (suc i) m
    divisor_yes m w = involutive_yes D (leaders T) (suc i) r.lead m within lead_is wide w S.flags

    divisor_no : (m : List ℕ) → Wide m → Involutive D (leaders T) (suc i) m → LeadDivides r.lead m
    divisor_no m w = involutive_no D (leaders T) (suc i) r.lead m within lead_is wide w S.flags

  -- a term that no row divides has no involutive divisor
  clean : (t : Term) → Wide (exponents t) → NoRow rows (length rows) (exponents t) → Clean G D T t
  clean t w e zero i = let h = i.within in absurd (omega arith)
  clean t w e (suc j) i =
      let h = i.within in
      let l : j < length rows = omega (arith, length-map rows terms_of, length-map T leading) in
      let x = element rows j l in
      e j l x.0 x.1 (divisor_no j x.0 l x.1 (exponents t) w i)

  clean_upto : (f : Poly) (k : ℕ) → k ≤ length f → Each (λ t. Wide (exponents t)) f → NoTerm rows f k → Each (Clean G D T) (take k f)
  clean_upto f k l w none t m =
      let x = member_entry (term 0 []) (take k f) m in
      let h : x.0 < k = (let b = x.1 in omega (arith, length-take k f)) in
      let e : t ≡ get_or f x.0 (term 0 []) = x.2 ∙ get_or-take k f x.0 (term 0 []) h in
      let p : Wide (exponents t) = subst (λ s. Wide (exponents s)) (sym e) (w (get_or f x.0 (term 0 [])) (entry_member (term 0 []) f x.0 (omega arith))) in
      clean t p (subst (λ s. NoRow rows (length rows) (exponents s)) (sym e) (none x.0 h))

  wides : {h fine rest : Poly} {turn : ℕ} → At h fine rest turn → Each (λ t. Wide (exponents t)) rest
  wides {h} {fine} {rest} st t m = (st.written.over t (Memᴰ.append_right fine m)).1.wide

  -- there is room for the terms that are done
  front_fits : {h fine rest : Poly} {turn : ℕ} → At h fine rest turn → (part : Poly) → length part ≤ length rest → length fine + length part ≤ room
  front_fits {h} {fine} {rest} st part l = let b = st.short in omega (arith, length-append fine rest)

  -- no term is left that a row divides
  pub finished : {h fine rest : Poly} {turn : ℕ} → At h fine rest turn → Finds rows rest None → (res : Result (Unit {0}) NoRoom) (fine' : Poly) → Extended fine rest room res fine' → Reduces F O D n T room h (left fine')
  finished {h} {fine} {rest} {turn} st none res fine' extended =
      let e = extend_all fine rest room res fine' (front_fits st rest (omega arith)) extended in
      let k = subst (Each (Clean G D T)) (take_all (length rest) rest (omega arith)) (clean_upto rest (length rest) (omega arith) (wides st) none) in
      subst (λ x. Reduces F O D n T room h (left x)) (sym e) (ended G D T room (moved G D T room rest [] (subst (λ x. At h fine x turn) (sym (append-nil rest)) st) k))

  -- A turn at term i and row k, to which the code hands what the terms that are done leave of the room.
  module _ {h fine rest : Poly} {turn : ℕ} (st : At h fine rest turn) (i k : ℕ) (found : Finds rows rest (Some (i, k))) (r : Row) (is_r : r ≡ get_or rows k r) (res : Result (Unit {0}) NoRoom) (fine' : Poly) (extended : Extended fine (take i rest) room res fine') where
    abbrev t : Term
    t = get_or rest i (term 0 [])

    front : fine' ≡ fine ++ take i rest
    front = extend_all fine (take i rest) room res fine' (front_fits st (take i rest) (omega (arith, length-take i rest))) extended

    abbrev at_row : SoundRow (setting F O D n) T k r
    at_row = sound.each k r found.2.inside is_r

    cut : rest ≡ take i rest ++ t ∷ drop (i + 1) rest
    cut = sym (take-append-drop i rest) ∙ ap (λ x. take i rest ++ x) (drop_more rest i (term 0 []) found.0)

    here : At h fine' (t ∷ drop (i + 1) rest) turn
    here =
        let b = found.0 in
        subst (λ x. At h x (t ∷ drop (i + 1) rest) turn) (sym front)
        (moved G D T room (take i rest) (t ∷ drop (i + 1) rest) (subst (λ x. At h fine x turn) cut st) (clean_upto rest i (omega arith) (wides st) found.1))

    t_there : Memᴰ t (fine' ++ t ∷ drop (i + 1) rest)
    t_there = Memᴰ.append_right fine' (Memᴰ.head refl)

    div : Involutive D (leaders T) (suc k) (exponents t)
    div = divisor_yes k r found.2.inside is_r (exponents t) (here.written.over t t_there).1.wide (found.2.divides r is_r)

    abbrev l : Term
    l = (first_of (terms_of r) at_row.good.monic).0

    abbrev tail : Poly
    tail = drop 1 (terms_of r)

    is : row T (suc k) ≡ l ∷ tail
    is = row_is k r found.2.inside is_r ∙ split k r found.2.inside is_r

    W : Written F O n (l ∷ tail)
    W = subst (Written F O n) (split k r found.2.inside is_r) at_row.good.acceptable.written

    monic : l.coefficient ≡ 1
    monic = sym (ap leading_coefficient (split k r found.2.inside is_r)) ∙ at_row.good.monic

    action : Action G D T fine' t (drop (i + 1) rest) (suc k) l tail
    action = Standing.action G D T room here (suc k) l tail div is W monic

    abbrev a : List ℕ
    a = quotient (exponents t) r.lead.monomial.exponents

    abbrev M : Poly
    M = scaled F t.coefficient a tail

    shift_is : a ≡ quotient (exponents t) (exponents l)
    shift_is = ap (λ u. quotient (exponents t) u) (at_row.lead ∙ ap leading (split k r found.2.inside is_r))

    m_is : M ≡ scaled F t.coefficient (quotient (exponents t) (exponents l)) tail
    m_is = ap (λ u. scaled F t.coefficient u tail) shift_is

    -- what the code's subtraction says of this turn
    abbrev Cancels : ℕ → Poly → Result (Unit {0}) Reason → Poly → Type 0
    Cancels free behind res out = (n : ℕ) → Written F O n behind → Written F O n tail → 0 < t.coefficient → t.coefficient < F.q → In n a → Subtracted F O n free behind M res out

    subtracted : (free : ℕ) (behind : Poly) (res : Result (Unit {0}) Reason) (out : Poly) → behind ≡ drop (i + 1) rest → Cancels free behind res out → Subtracted F O n free (drop (i + 1) rest) M res out
    subtracted free behind res out e s =
        subst (λ x. Cancels free x res out) e s n
        (Acting.written_behind G action)
        (Acting.written_tail G action)
        (here.written.nonzero t t_there) (here.written.over t t_there).0
        (subst (In n) (sym shift_is) (Acting.shift_in G action))

    module _ (free : ℕ) (is_free : free ≡ room - length fine') (behind : Poly) (is_behind : behind ≡ drop (i + 1) rest) where
      exact : length fine' + free ≡ room
      exact = let w = here.short in omega (arith, length-append fine' (t ∷ drop (i + 1) rest))

      pub act : (res : Result (Unit {0}) Reason) (g new : Poly) → res ≡ Ok tt → new ≡ g → Cancels free behind res g → At h fine' new (turn + 1)
      act res g new y e s =
          let x = subtracted free behind (Ok tt) g is_behind (subst (λ r. Cancels free behind r g) y s) in
          let q = x.2 in
          subst (λ y. At h fine' y (turn + 1)) (sym e) (subst (At h fine' g) (sym (add-one turn))
          (Standing.acted G D T room here action g (subst Fits m_is x.0) (subst (λ m. Differs F O n (drop (i + 1) rest) m g) m_is x.1) (omega (arith, length-append fine' g, exact))))

      stopped : (why : Reason) (g : Poly) → Subtracted F O n free (drop (i + 1) rest) M (Err why) g → Reduces F O D n T room h (refused (refuse (number why) (suc k)))
      stopped TooWide g s = Standing.too_wide G D T room here action (λ f. s (subst Fits (sym m_is) f))
      stopped Long g (e, (f, d, q)) =
          Standing.too_long G D T room here action f (subst Fits m_is e) (subst (λ m. Differs F O n (drop (i + 1) rest) m f) m_is d) (omega (arith, length-append fine' f, exact))

      pub stop : (res : Result (Unit {0}) Reason) (why : Reason) (g : Poly) → res ≡ Err why → Cancels free behind res g → Reduces F O D n T room h (refused (refuse (number why) (k + 1)))
      stop res why g y s =
          subst (λ j. Reduces F O D n T room h (refused (refuse (number why) j))) (sym (add-one k))
          (stopped why g (subtracted free behind (Err why) g is_behind (subst (λ r. Cancels free behind r g) y s)))
