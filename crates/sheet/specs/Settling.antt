-- What the rows leave of a polynomial, and appending it.
use Rattle.std.specs.Prelude.{◌≡◌, ◌<◌, [], ◌∷◌, length, Ok, Err, Result}
use Rattle.polynomial.specs.declared.term.Term.{Term}
use Rattle.polynomial.specs.Polynomial.{Poly}
use Rattle.polynomial.specs.Check.{Acceptable}
use Rattle.involutive.specs.Reduction.{Table, Irreducible}
use Rattle.involutive.specs.Sheet.{Setting, State, most_rows, with_row}
use Rattle.calls.specs.declared.refusal.Refusal.{Refusal}
use Rattle.calls.specs.declared.refusal.Refusal.TheVariants.{Full}
use Rattle.sheet.specs.declared.settle.Settled.{Settled}
use Rattle.sheet.specs.declared.settle.Settled.TheVariants.{Nothing, Appended}

-- what the rows T may leave of a polynomial: one within the limits of which no term has an involutive divisor
pub record Left (S : Setting) (T : Table) (g : Poly) : Type 0 where
  pub acceptable : Acceptable S.field S.order S.variables g
  pub irreducible : Irreducible S.field S.order S.division S.variables T g

-- `Settles S s g r s'`: what becomes of g, which the rows left, on a sheet with state s, and the state after it
pub data Settles (S : Setting) (s : State) : Poly → Result Settled Refusal → State → Type 0 where
  nothing : Settles S s [] (Ok Nothing) s
  full : {t : Term} {g : Poly} → length s.rows ≡ most_rows → Settles S s (t ∷ g) (Err Full) s
  appends : {t : Term} {g : Poly} → length s.rows < most_rows → Settles S s (t ∷ g) (Ok Appended) (with_row S s (t ∷ g))

-- this holds where no row was appended
abbrev pub UnlessAppended : Result Settled Refusal → Type 0 → Type 0
UnlessAppended (Ok Appended) P = Unit {0}
UnlessAppended (Ok Nothing) P = P
UnlessAppended (Err r) P = P
