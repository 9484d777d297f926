-- Where reducing stands: the terms that are done, what is left, and how many turns are left to it at most.
use Rattle.std.proofs.Common.{◌≡◌, ℕ, suc, ◌+◌, ◌<◌, ◌≤◌, Bool, true, false, List, [], ◌∷◌, ◌++◌, length, get_or, Ordering, Less, Equal, Greater, sym, refl, ap, ◌∙◌, subst, append_assoc, append-nil, arith}
use mathlib.Core.List.Memᴰ
use mathlib.Core.List.{Memᴰ}
use Rattle.std.specs.Ordering.{ordering_reverse}
use Rattle.std.proofs.lemmas.Bool.{both_ways}
use Rattle.field.specs.Field.{FieldMeaning, FieldLaws}
use Rattle.monomial.specs.Monomial.{Wide, Bounded, quotient}
use Rattle.monomial.specs.Order.{Compare, OrderLaws, Under}
use Rattle.monomial.specs.Division.{Split, Involutive}
use Rattle.monomial.specs.Places.{low}
use Rattle.polynomial.specs.declared.term.Term.{Term}
use Rattle.polynomial.specs.Polynomial.{Poly, exponents, Over, Written, Falling}
use Rattle.polynomial.specs.Check.{Fits, largest_exponent}
use Rattle.involutive.specs.Value.{scaled}
use Rattle.involutive.specs.Reduction.{Table, row, leaders, Outcome, left, refused, refuse, Reduces, done as reduced, acts, long, wide}
use Rattle.involutive.proofs.Typing.{Ground}
use Rattle.reduction.specs.Subtraction.{Differs}
use Rattle.reduction.proofs.Acting
use Rattle.reduction.proofs.Acting.{Clean, Action}
use Rattle.reduction.proofs.Counting.{count, count_strict, count_most}
use Rattle.reduction.proofs.Terms.{Each, each_head, each_tail, each_append, each_right, Tops, falling_head, falling_tail, falling_right}

-- how many monomials have exponents up to 40: 41 to the power of 6
abbrev pub monomials : ℕ
monomials = 4750104241

-- what polynomials in n variables are made of, over a field and an order with their laws
abbrev pub over : {F : FieldMeaning} {O : Compare} → FieldLaws F → OrderLaws O → ℕ → Ground
over {F} {O} L Q n = record { field = F; laws = L; order = O; order_laws = Q; variables = n }

abbrev not_above : Ordering → Bool
not_above Less = true
not_above Equal = true
not_above Greater = false

-- how many of them are at or below the first term
pub ahead : Compare → Poly → ℕ
ahead O [] = 0
ahead O (t ∷ f) = count 41 6 (λ m. not_above (O m (exponents t)))

abbrev Wides : Poly → Type 0
Wides f = Each (λ t. Wide (exponents t)) f

boxed : (u : List ℕ) → Bounded largest_exponent u → (i : ℕ) → i < 6 → get_or u i 0 < 41
boxed u s i l = let y : get_or u i 0 ≤ 40 = subst (λ j. get_or u j 0 ≤ 40) (low i) (s (suc i)) in omega arith

pub ahead_most : (O : Compare) (f : Poly) → ahead O f ≤ monomials
unfolding ahead
ahead_most O [] = omega arith
ahead_most O (t ∷ f) = count_most 41 6 (λ m. not_above (O m (exponents t)))

module _ (O : Compare) (Q : OrderLaws O) where
  below_both : (m s t : List ℕ) → Wide m → Wide s → Wide t → Under O s t → not_above (O m s) ≡ true → not_above (O m t) ≡ true
  below_both m s t p q r h e = go (O m s) refl e
    where
      go : (o : Ordering) → O m s ≡ o → not_above o ≡ true → not_above (O m t) ≡ true
      go Less d e = ap not_above (Q.transitive m s t p q r d h)
      go Equal d e = ap not_above (subst (λ x. Under O x t) (sym ((Q.equal m s p q).0 d)) h)
      go Greater d e = absurd (both_ways false refl e)

  -- fewer are ahead of what stands below t
  pub ahead_falls : (t : Term) (f g : Poly) → Bounded largest_exponent (exponents t) → Wide (exponents t) → Wides g → Tops O (exponents t) g → ahead O g < ahead O (t ∷ f)
  unfolding ahead
  ahead_falls t f [] s w o h =
      let u = exponents t in
      let k : count 41 6 (λ m. false) < count 41 6 (λ m. not_above (O m u)) = count_strict 41 6 (λ m. false) (λ m. not_above (O m u)) (λ m l e. absurd (both_ways false refl e)) u w (boxed u s) refl (ap not_above ((Q.equal u u w w).1 refl)) in
      omega arith
  ahead_falls t f (r ∷ g) s w o h =
      let u = exponents t in
      let wr = each_head {P = λ s. Wide (exponents s)} o in
      count_strict 41 6 (λ m. not_above (O m (exponents r))) (λ m. not_above (O m u)) (λ m l e. below_both m (exponents r) u l wr w h e) u w (boxed u s)
      (ap not_above (Q.total (exponents r) u wr w ∙ ap ordering_reverse h)) (ap not_above ((Q.equal u u w w).1 refl))

  -- and none of what is not there
  pub ahead_none : (f : Poly) → Fits f → Wides f → ahead O f ≤ 0 → f ≡ []
  unfolding ahead
  ahead_none [] s w h = refl
  ahead_none (t ∷ f) s w h = absurd (omega (arith, ahead_falls t f [] (s t (Memᴰ.head refl)) (each_head {P = λ t. Wide (exponents t)} w) (λ s m. elim m [ ]) tt))

  pub ahead_later : (d f : Poly) → Fits (d ++ f) → Wides (d ++ f) → Falling O (d ++ f) → ahead O f ≤ ahead O (d ++ f)
  ahead_later [] f s w h = omega arith
  ahead_later (x ∷ d) f s w h =
      let k = ahead_later d f (each_tail {P = λ t. Bounded largest_exponent (exponents t)} s) (each_tail {P = λ t. Wide (exponents t)} w) (falling_tail (d ++ f) h) in
      omega (arith, k, ahead_falls x (d ++ f) (d ++ f) (s x (Memᴰ.head refl)) (each_head {P = λ t. Wide (exponents t)} w) (each_tail {P = λ t. Wide (exponents t)} w) (falling_head (d ++ f) h))

module _ (G : Ground) (D : Split) (T : Table) (room : ℕ) where
  open G use {field as F, order as O, order_laws as Q, variables as n}

  -- after `turn` turns from h on: no term of `fine` has a divisor, and whatever fine and rest together come to, h comes to
  pub record Stands (h fine rest : Poly) (turn : ℕ) : Type 0 where
    pub written : Written F O n (fine ++ rest)
    pub small : Fits (fine ++ rest)
    pub short : length (fine ++ rest) ≤ room
    pub clean : Each (Clean G D T) fine
    pub comes : {o : Outcome} → Reduces F O D n T room (fine ++ rest) o → Reduces F O D n T room h o
    pub turns : turn + ahead O rest ≤ monomials

  pub begun : (h : Poly) → Written F O n h → Fits h → length h ≤ room → Stands h [] h 0
  begun h w s l = record { written = w; small = s; short = l; clean = λ t m. elim m [ ]; comes = λ r. r; turns = omega (arith, ahead_most O h) }

  -- the same of another name for what is left
  pub seen : {h fine rest : Poly} {turn : ℕ} (xs : Poly) → xs ≡ rest → Stands h fine rest turn → Stands h fine xs turn
  seen {h} {fine} {rest} {turn} xs e = subst (λ x. Stands h fine x turn) (sym e)

  wides : {f : Poly} → Over F n f → Wides f
  wides o t m = (o t m).1.wide

  pub ended : {h fine : Poly} {turn : ℕ} → Stands h fine [] turn → Reduces F O D n T room h (left fine)
  ended {h} {fine} S = S.comes (subst (λ x. Reduces F O D n T room x (left fine)) (sym (append-nil fine)) (reduced (λ t m k i. S.clean t m k i)))

  -- terms without a divisor are done
  pub moved : {h fine : Poly} (d rest : Poly) {turn : ℕ} → Stands h fine (d ++ rest) turn → Each (Clean G D T) d → Stands h (fine ++ d) rest turn
  moved {h} {fine} d rest {turn} S k =
      let e = append_assoc fine d rest in
      let b = S.turns in
      record {
        written = subst (Written F O n) (sym e) S.written;
        small = subst Fits (sym e) S.small;
        short = subst (λ x. length x ≤ room) (sym e) S.short;
        clean = each_append (Clean G D T) fine d S.clean k;
        comes = λ {o} r. S.comes (subst (λ x. Reduces F O D n T room x o) e r);
        turns = omega (arith, b, ahead_later O Q d rest (each_right fine (d ++ rest) S.small) (wides (each_right fine (d ++ rest) S.written.over)) (falling_right fine (d ++ rest) S.written.falling));
      }

  -- no turn is left, so nothing is
  pub used_up : {h fine rest : Poly} {turn : ℕ} → Stands h fine rest turn → monomials ≤ turn → Reduces F O D n T room h (left fine)
  used_up {h} {fine} {rest} {turn} S e =
      let b = S.turns in
      let z : rest ≡ [] = ahead_none O Q rest (each_right fine rest S.small) (wides (each_right fine rest S.written.over)) (omega arith) in
      ended (subst (λ x. Stands h fine x turn) z S)

  -- the action of a turn
  pub action : {h fine rest : Poly} {t : Term} {turn : ℕ} → Stands h fine (t ∷ rest) turn → (k : ℕ) (l : Term) (tail : Poly) → Involutive D (leaders T) k (exponents t) → row T k ≡ l ∷ tail → Written F O n (l ∷ tail) → l.coefficient ≡ 1 → Action G D T fine t rest k l tail
  action S k l tail div is w m = record { written = S.written; small = S.small; clean = S.clean; divisor = div; row_is = is; row_written = w; monic = m }

  module _ {h fine rest : Poly} {t : Term} {turn k : ℕ} {l : Term} {tail : Poly} (S : Stands h fine (t ∷ rest) turn) (A : Action G D T fine t rest k l tail) where
    abbrev M : Poly
    M = scaled F t.coefficient (quotient (exponents t) (exponents l)) tail

    here : Memᴰ t (fine ++ t ∷ rest)
    here = Memᴰ.append_right fine (Memᴰ.head refl)

    pub acted : (g : Poly) → Fits M → Differs F O n rest M g → length (fine ++ g) ≤ room → Stands h fine g (suc turn)
    acted g e r p =
        let d = Acting.difference G A r in
        let b = S.turns in
        record {
          written = d.written;
          small = Acting.fits_new G A r e;
          short = p;
          clean = S.clean;
          comes = λ q. S.comes (acts (Acting.reducible G A) (Acting.fits_multiple G A e) d p q);
          turns = omega (arith, b, ahead_falls O Q t rest g (S.small t here) (S.written.over t here).1.wide (wides (each_right fine g d.written.over)) (Acting.topped G A r));
        }

    pub too_long : (g : Poly) → Fits M → Differs F O n rest M g → room < length (fine ++ g) → Reduces F O D n T room h (refused (refuse 10 k))
    too_long g e r p = S.comes (long (Acting.reducible G A) (Acting.fits_multiple G A e) (Acting.difference G A r) p)

    pub too_wide : (Fits M → ⊥) → Reduces F O D n T room h (refused (refuse 9 k))
    too_wide e = S.comes (wide (Acting.reducible G A) (Acting.wide_multiple G A e))
