use Rattle.std.proofs.Common.{◌≡◌, ℕ, ◌+◌, ◌<◌, ◌≤◌, get_or}
use Rattle.monomial.specs.Monomial.{Wide}
use Rattle.monomial.proofs.Monomial.product.Given as goal

abbrev pub invariant-loop-i : goal.invariant-loop-i
invariant-loop-i l =
    Wide l.exponents
    × ((h : ℕ) → h < l.i → get_or l.exponents h 0 ≡ get_or l.self.exponents h 0 + get_or l.other.exponents h 0)
    × ((h : ℕ) → h < l.i → get_or l.self.exponents h 0 + get_or l.other.exponents h 0 ≤ 255)
