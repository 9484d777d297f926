-- Command bytes: a byte, operands of fixed width, and the rest.
use Rattle.std.specs.Prelude.{◌≡◌, ℕ, ◌+◌, ◌<◌, ◌≤◌, List, [], length, take, drop, Some, None, Ok, Err, Option, Result, slice_index}
use Rattle.std.specs.Borrow.{Bor}
use Rattle.replay.specs.declared.command.Command.{Command}
use Rattle.replay.specs.declared.command.Command.TheVariants.{Sheet, Term, Add, Steps, Remainder, Row, FairCopy, Verdict}
use Rattle.replay.specs.declared.command.Fault.{Fault}
use Rattle.replay.specs.declared.command.Fault.TheVariants.{Short, Unknown}
use Rattle.replay.specs.declared.stop.Stop.{Stop}
use Rattle.replay.specs.declared.stop.Stop.TheVariants.{Unread, Misplaced}
use Rattle.choice.specs.declared.unnamed.Unnamed.{Unnamed}
use Rattle.choice.specs.declared.unnamed.Unnamed.TheVariants.{Field, Variables, Order, Division}
use Rattle.replay.specs.Words.{operand_bytes}

abbrev pub byte_of : Command → ℕ
byte_of (Sheet a) = 0
byte_of (Term a) = 1
byte_of Add = 2
byte_of (Steps a) = 3
byte_of Remainder = 4
byte_of (Row a) = 5
byte_of FairCopy = 6
byte_of Verdict = 7

abbrev pub operands_of : Command → List ℕ
operands_of (Sheet a) = a.now
operands_of (Term a) = a.now
operands_of Add = []
operands_of (Steps a) = a.now
operands_of Remainder = []
operands_of (Row a) = a.now
operands_of FairCopy = []
operands_of Verdict = []

abbrev pub Reads : List ℕ → Result (Option (Command × Bor (List ℕ))) Fault → Type 0
Reads bs (Ok None) = length bs ≡ 0
Reads bs (Ok (Some p)) = (slice_index bs 0 ≡ byte_of p.0) × (operand_bytes (byte_of p.0) < length bs) × (operands_of p.0 ≡ take (operand_bytes (byte_of p.0)) (drop 1 bs)) × (p.1.now ≡ drop (operand_bytes (byte_of p.0) + 1) bs)
Reads bs (Err (Short b)) = (0 < length bs) × (slice_index bs 0 ≡ b) × (b ≤ 7) × (length bs ≤ operand_bytes b)
Reads bs (Err (Unknown b)) = (0 < length bs) × (slice_index bs 0 ≡ b) × (7 < b)

-- the same where no sheet command may stand
abbrev pub ReadsCall : List ℕ → Result (Option (Command × Bor (List ℕ))) Stop → Type 0
ReadsCall bs (Ok None) = length bs ≡ 0
ReadsCall bs (Ok (Some p)) = (0 < byte_of p.0) × Reads bs (Ok (Some p))
ReadsCall bs (Err (Unread fault)) = Reads bs (Err fault)
ReadsCall bs (Err (Misplaced b)) = (slice_index bs 0 ≡ 0) × (6 < length bs) × (b ≡ 0)

-- the byte and the number of a command that is not carried out
abbrev pub stop_byte : Stop → ℕ
stop_byte (Unread (Unknown b)) = b
stop_byte (Unread (Short b)) = b
stop_byte (Misplaced b) = b

abbrev pub stop_number : Stop → ℕ
stop_number (Unread (Unknown b)) = 15
stop_number (Unread (Short b)) = 16
stop_number (Misplaced b) = 17

-- the number of a making that is refused
abbrev pub no_sheet_number : Unnamed → ℕ
no_sheet_number Field = 1
no_sheet_number Variables = 2
no_sheet_number Order = 3
no_sheet_number Division = 4
