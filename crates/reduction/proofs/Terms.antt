-- What holds of each term of a list, and the first terms of falling lists.
use Rattle.std.proofs.Common.{ℕ, List, [], ◌∷◌, ◌++◌, sym, refl, subst, ⊎_elim}
use mathlib.Core.List.Memᴰ
use mathlib.Core.List.{Memᴰ}
use Rattle.monomial.specs.Order.{Compare, Under}
use Rattle.polynomial.specs.declared.term.Term.{Term}
use Rattle.polynomial.specs.Polynomial.{Poly, exponents, Falling, none, single, more}

abbrev pub Each : (Term → Type 0) → Poly → Type 0
Each P f = (t : Term) → Memᴰ t f → P t

pub each_cons : (P : Term → Type 0) {t : Term} {f : Poly} → P t → Each P f → Each P (t ∷ f)
each_cons P p r s h = ⊎_elim (λ e. subst P (sym e) p) (λ k. r s k) (Memᴰ.cases_cons h)

pub each_tail : {P : Term → Type 0} {t : Term} {f : Poly} → Each P (t ∷ f) → Each P f
each_tail r s h = r s (Memᴰ.tail h)

pub each_head : {P : Term → Type 0} {t : Term} {f : Poly} → Each P (t ∷ f) → P t
each_head r = r _ (Memᴰ.head refl)

pub each_append : (P : Term → Type 0) (d f : Poly) → Each P d → Each P f → Each P (d ++ f)
each_append P d f o p t m = ⊎_elim (λ k. o t k) (λ k. p t k) (Memᴰ.append_cases d m)

pub each_right : {P : Term → Type 0} (d f : Poly) → Each P (d ++ f) → Each P f
each_right d f o t m = o t (Memᴰ.append_right d m)

pub each_left : {P : Term → Type 0} (d f : Poly) → Each P (d ++ f) → Each P d
each_left d f o t m = o t (Memᴰ.append_left f m)

-- the first term of f, if there is one, stands below u
abbrev pub Tops : Compare → List ℕ → Poly → Type 0
Tops O u [] = Unit {0}
Tops O u (t ∷ f) = Under O (exponents t) u

pub falling_head : {O : Compare} {t : Term} (f : Poly) → Falling O (t ∷ f) → Tops O (exponents t) f
falling_head [] h = tt
falling_head (s ∷ f) (more u h) = u

pub falling_tail : {O : Compare} {t : Term} (f : Poly) → Falling O (t ∷ f) → Falling O f
falling_tail [] h = none
falling_tail (s ∷ f) (more u h) = h

pub falling_cons : {O : Compare} (t : Term) (f : Poly) → Tops O (exponents t) f → Falling O f → Falling O (t ∷ f)
falling_cons t [] u h = single
falling_cons t (s ∷ f) u h = more u h

pub falling_right : {O : Compare} (d f : Poly) → Falling O (d ++ f) → Falling O f
falling_right [] f h = h
falling_right (x ∷ d) f h = falling_right d f (falling_tail (d ++ f) h)
