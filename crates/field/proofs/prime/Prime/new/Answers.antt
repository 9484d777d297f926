use Rattle.std.proofs.Common.{◌≡◌, true, refl, sym, ◌∙◌}
use Rattle.field.specs.Primes.{listed, primes}
use Rattle.field.specs.PrimeList.{listed_are_the_primes, listed_bounds, stands_any}
use Rattle.field.proofs.prime.Prime.new.Goals as goal

pub invariant_of-result : goal.invariant_of-result
unfolding listed
invariant_of-result c =
    let t : listed c.args.p ≡ true = sym (stands_any c.args.p primes) ∙ sym c.contains.ensures.value ∙ c.if-contains.true in
    record { prime = t; small = listed_bounds c.args.p t; inverse = refl }

pub returns-then-contains : goal.returns-then-contains
unfolding listed
returns-then-contains c = record {
  answer = (sym (stands_any c.args.p primes) ∙ sym c.contains.ensures.value ∙ c.if-contains.true, refl);
  primes = listed_are_the_primes;
}

pub returns-else-contains : goal.returns-else-contains
unfolding listed
returns-else-contains c = record {
  answer = sym (stands_any c.args.p primes) ∙ sym c.contains.ensures.value ∙ c.if-contains.false;
  primes = listed_are_the_primes;
}
