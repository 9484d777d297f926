-- Widths of operands, numbers of two bytes, gathered terms, and the line of each answer.
use Rattle.std.specs.Prelude.{ℕ, ◌+◌, ◌*◌, cond, List, [], ◌∷◌, ◌++◌, length, take, drop, Some, None, Option, ◌==◌, nat_lt, slice_index}
use Rattle.polynomial.specs.declared.term.Term.{Term}
use Rattle.polynomial.specs.Polynomial.{Poly, term}
use Rattle.polynomial.specs.Bytes.{poly_bytes}
use Rattle.involutive.specs.Reduction.{Refusal}
use Rattle.involutive.specs.Answers.{Answer, rows_now, closed_answer, marked_answer, appended_answer, written, copied_answer, verdict_answer, denied}
use Rattle.lines.specs.Line.{line, bytes_field, count_field}

-- how many bytes of operands follow the byte of a command
abbrev pub operand_bytes : ℕ → ℕ
operand_bytes b = cond (b == 0) 6 (cond (b == 1) 8 (cond (b == 3) 2 (cond (b == 5) 1 0)))

-- the high byte first
abbrev pub word : ℕ → ℕ → ℕ
word high low = high * 256 + low

-- the term of the eight operand bytes
abbrev pub term_of : List ℕ → Term
term_of o = term (word (slice_index o 0) (slice_index o 1)) (drop 2 o)

-- the first 41 terms are kept
abbrev pub gather : Poly → Term → Poly
gather g t = cond (nat_lt (length g) 41) (g ++ (t ∷ [])) g

-- the number and the value of a line
abbrev pub number_of : Answer → ℕ
number_of (rows_now n) = 0
number_of closed_answer = 0
number_of marked_answer = 0
number_of appended_answer = 0
number_of (written n) = 0
number_of (copied_answer rows bytes) = 0
number_of (verdict_answer v) = 0
number_of (denied r) = r.number

abbrev pub value_of : Answer → ℕ
value_of (rows_now n) = n
value_of closed_answer = 0
value_of marked_answer = 0
value_of appended_answer = 0
value_of (written n) = n
value_of (copied_answer rows bytes) = rows
value_of (verdict_answer v) = v
value_of (denied r) = r.place

-- what was written to the front of the lent terms, or of the lent bytes
abbrev pub terms_written : Answer → Poly → List ℕ
terms_written (rows_now n) out = []
terms_written closed_answer out = []
terms_written marked_answer out = []
terms_written appended_answer out = []
terms_written (written n) out = poly_bytes (take n out)
terms_written (copied_answer rows bytes) out = []
terms_written (verdict_answer v) out = []
terms_written (denied r) out = []

abbrev pub bytes_written : Answer → List ℕ → List ℕ
bytes_written (rows_now n) out = []
bytes_written closed_answer out = []
bytes_written marked_answer out = []
bytes_written appended_answer out = []
bytes_written (written n) out = []
bytes_written (copied_answer rows bytes) out = take bytes out
bytes_written (verdict_answer v) out = []
bytes_written (denied r) out = []

-- the line of an add or a verdict
abbrev pub answered : ℕ → ℕ → Answer → List ℕ
answered at b a = line at b (number_of a) (value_of a) []

-- the line of a remainder or a row, with the terms that the caller has now
abbrev pub shown : ℕ → ℕ → Answer → Poly → List ℕ
shown at b a out = line at b (number_of a) (value_of a) (bytes_field (terms_written a out))

-- the line of a fair copy, with the bytes that the caller has now
abbrev pub copied : ℕ → Answer → List ℕ → List ℕ
copied at a out = line at 6 (number_of a) (value_of a) (bytes_field (bytes_written a out))

-- the line of steps: how many were granted, and what denied the next one
abbrev pub stepped : ℕ → ℕ → Option Refusal → List ℕ
stepped at k None = line at 3 0 k []
stepped at k (Some r) = line at 3 r.number r.place (count_field k)

-- a command that is not carried out; steps tells that no step was granted
abbrev pub refused_line : ℕ → ℕ → ℕ → List ℕ
refused_line at b number = line at b number at (cond (b == 3) (count_field 0) [])
