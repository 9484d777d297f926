-- Copying rows one after another. Only contracts of private functions use these words.
use Rattle.std.specs.Prelude.{◌≡◌, ℕ, ◌-◌, ◌<◌, ◌≤◌, List, [], ◌∷◌, ◌++◌, length, take, drop, Ok, Err, Result}
use Rattle.polynomial.specs.Polynomial.{Poly}
use Rattle.polynomial.specs.Check.{most_terms}
use Rattle.polynomial.specs.Bytes.{poly_bytes, copy_bytes}
use Rattle.involutive.specs.Reduction.{Table, left, refused, refuse, Reduces}
use Rattle.involutive.specs.Sheet.{Setting, State}
use Rattle.involutive.specs.Answers.{Copies, copies, copy_refused, front}
use Rattle.calls.specs.declared.answer.Copied.{Copied}
use Rattle.calls.specs.declared.refusal.Refusal.{Refusal}
use Rattle.calls.specs.Told.{told}

-- the most bytes of one row: a leading term, 40 terms behind it and the closing byte; and those of 32 rows
abbrev pub row_room : ℕ
row_room = 370

abbrev pub copy_room : ℕ
copy_room = 11840

-- what became of a row with the terms f: the bytes of its copy stand behind the old ones, or it is denied
abbrev pub RowCopied : Setting → Table → Poly → Result (Unit {0}) Refusal → List ℕ → List ℕ → Type 0
RowCopied S T f (Ok u) old new = (g : Poly) × Reduces S.field S.order S.division S.variables T (most_terms - 1) (drop 1 f) (left g) × (new ≡ old ++ (poly_bytes (take 1 f ++ g) ++ (2 ∷ [])))
RowCopied S T f (Err d) old new = Reduces S.field S.order S.division S.variables T (most_terms - 1) (drop 1 f) (refused (told d))

-- what became of the rows ks: these are the bytes of their copies, or the first that is denied ends it
abbrev pub RowsCopied : Setting → State → List ℕ → Result (Unit {0}) Refusal → List ℕ → Type 0
RowsCopied S s ks (Ok u) bytes = (fs : List Poly) × Copies S s ks (copies fs) × (bytes ≡ copy_bytes fs) × (length fs ≡ length ks)
RowsCopied S s ks (Err d) bytes = Copies S s ks (copy_refused (told d))

-- the bytes stand at the front of those that were lent, or these are too few and stay as they were
abbrev pub Delivered : ℕ → List ℕ → List ℕ → Result Copied Refusal → List ℕ → Type 0
Delivered rows bytes out (Ok c) new = (c.rows ≡ rows) × (c.bytes ≡ length bytes) × (length bytes ≤ length out) × (new ≡ front bytes out)
Delivered rows bytes out (Err d) new = (told d ≡ refuse 14 (length bytes)) × (length out < length bytes) × (new ≡ out)
