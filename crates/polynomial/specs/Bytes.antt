-- Terms, polynomials and tables as command bytes.
use Rattle.std.specs.Prelude.{ℕ, ◌*◌, ◌/◌, ◌%◌, List, [], ◌∷◌, ◌++◌, length}
use Rattle.polynomial.specs.declared.term.Term.{Term}
use Rattle.polynomial.specs.Polynomial.{Poly, exponents}

-- 01, two bytes of coefficient with the high one first, and the exponents
abbrev pub term_bytes : Term → List ℕ
term_bytes t = 1 ∷ (t.coefficient / 256) ∷ (t.coefficient % 256) ∷ exponents t

abbrev pub poly_bytes : Poly → List ℕ
poly_bytes [] = []
poly_bytes (t ∷ f) = term_bytes t ++ poly_bytes f

-- nine bytes to a term
abbrev pub bytes_needed : Poly → ℕ
bytes_needed f = length f * 9

-- each polynomial is closed by 02
abbrev pub copy_bytes : List Poly → List ℕ
copy_bytes [] = []
copy_bytes (f ∷ fs) = poly_bytes f ++ (2 ∷ copy_bytes fs)
