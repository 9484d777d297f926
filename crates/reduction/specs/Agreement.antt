-- That the rows of a table agree with what is kept beside them is a fact of the types that have such rows. A type holds one proof
-- of it: any two proofs of it are equal.
use Rattle.std.specs.Prelude.{◌≡◌, List, refl}
use Rattle.std.proofs.Common.{ap₂}
use Rattle.std.proofs.Props.{props}
use Rattle.monomial.specs.Order.{Compare, Under}
use Rattle.polynomial.specs.Polynomial.{Poly, exponents, Falling, none, single, more}
use Rattle.involutive.specs.Sheet.{Setting}
use Rattle.reduction.specs.declared.table.Row.{Row}
use Rattle.reduction.specs.Table.{SoundTable}

under_prop : (O : Compare) (u m : _) → IsProp (Under O u m)
under_prop O u m = hlevel props

falling_prop : {O : Compare} {f : Poly} (x y : Falling O f) → x ≡ y
falling_prop none none = refl
falling_prop single single = refl
falling_prop {O = O} (more {t = t} {s = s} u x) (more w y) = ap₂ (λ a b. more a b) (under_prop O (exponents s) (exponents t) u w) (falling_prop x y)

pub agreement_prop : (S : Setting) (rows : List Row) → IsProp (SoundTable S rows)
agreement_prop S rows = hlevel (props, falling_prop)
