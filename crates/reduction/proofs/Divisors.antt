-- The search by leading monomials and their multiplicative variables tells the involutive divisors.
use Rattle.std.proofs.Common.{◌≡◌, ℕ, suc, ◌-◌, ◌<◌, ◌≤◌, true, false, List, length, get_or, Some, sym, ap, ◌∙◌, subst, arith}
use Rattle.monomial.specs.Monomial.{width, Wide, quotient}
use Rattle.monomial.specs.Division.{Split, Within, Involutive, member}
use Rattle.monomial.specs.Places.{at_quotient, divides_from_places, low}
use Rattle.reduction.specs.declared.table.Lead.{Lead}
use Rattle.reduction.specs.Search.{LeadDivides}

module _ (D : Split) (U : List (List ℕ)) (k : ℕ) (l : Lead) (m : List ℕ) (at : Within k (length U)) (is : member U k ≡ l.monomial.exponents) (wide : Wide (member U k)) (wide' : Wide m) (flags : (v : ℕ) → Within v width → D U k v ≡ Some (get_or l.multiplicative (v - 1) false)) where
  -- the exponents of the quotient
  left_over : (i : ℕ) → get_or (quotient m (member U k)) i 0 ≡ get_or m i 0 - get_or l.monomial.exponents i 0
  left_over i = at_quotient m (member U k) (wide' ∙ sym wide) i ∙ ap (λ u. get_or m i 0 - get_or u i 0) is

  pub involutive_yes : LeadDivides l m → Involutive D U k m
  involutive_yes h = record {
    within = at;
    divides = divides_from_places (member U k) m wide (λ i b. subst (λ u. get_or u i 0 ≤ get_or m i 0) (sym is) (h i b).0);
    multiplicative = λ v w p. flags v w ∙ ap Some ((h (v - 1) (omega arith)).1 (omega (arith, p, left_over (v - 1))));
  }

  pub involutive_no : Involutive D U k m → LeadDivides l m
  involutive_no n i b = (
    subst (λ u. get_or u i 0 ≤ get_or m i 0) is (subst (λ j. get_or (member U k) j 0 ≤ get_or m j 0) (low i) (n.divides (suc i))),
    λ p. let w : Within (suc i) width = (omega arith, omega arith) in
        let q : 0 < get_or (quotient m (member U k)) i 0 = omega (arith, p, left_over i) in
        let e = n.multiplicative (suc i) w (subst (λ j. 0 < get_or (quotient m (member U k)) j 0) (sym (low i)) q) in
        let f : get_or l.multiplicative (suc i - 1) false ≡ true = cc (e, flags (suc i) w) in
        subst (λ j. get_or l.multiplicative j false ≡ true) (low i) f,
  )
