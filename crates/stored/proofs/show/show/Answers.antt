use Rattle.std.proofs.Common.{arith, ltb-false, ltb-true}
use Rattle.stored.specs.Faults.{unnamed_fault}
use Rattle.stored.specs.Stored.{Displays, TellsFile}
use Rattle.stored.proofs.Errors.{is_that_error}
use Rattle.stored.proofs.Showing.{opens_nothing, file_told}
use Rattle.stored.proofs.show.show.Goals as goal
use Rattle.stored.proofs.show.show.Goals.{in_default-via-then-input-lt7, in_default-via-else-input-lt7+in_default-1}

pub returns-in_default : goal.returns-in_default
returns-in_default c =
    opens_nothing c.args.input.now (λ l e. elim c.in_default.branch [ in_default-via-then-input-lt7 w ↦ omega (arith, ltb-true) | in_default-via-else-input-lt7+in_default-1 w ↦ omega arith ])

pub returns-in_err-choose : goal.returns-in_err-choose
returns-in_err-choose c =
    is_that_error (TellsFile (Displays c.args.input.now)) c.from_residual.result (unnamed_fault c.in_err-choose.field-0.0) c.from_residual.ensures.1
    (file_told c.args.input.now (omega (arith, ltb-false)) (omega arith) (λ i. omega (arith, c.type_inv.input i)) c.new-operands.result c.new-operands.ensures _ c.in_err-choose.ensures)

pub returns : goal.returns
returns c =
    file_told c.args.input.now (omega (arith, ltb-false)) (omega arith) (λ i. omega (arith, c.type_inv.input i)) c.new-operands.result c.new-operands.ensures _ c.in_ok-choose.ensures
