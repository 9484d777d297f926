-- A table as people write it: a line on the setting, then a line for each row.
use Rattle.std.specs.Prelude.{ℕ, zero, suc, Bool, false, cond, not, ◌||◌, List, [], ◌∷◌, ◌++◌, map, length, codes, decimal, ◌==◌}
use Rattle.std.specs.Option.{unwrap_or}
use Rattle.monomial.specs.Monomial.{degree}
use Rattle.monomial.specs.Division.{Split}
use Rattle.polynomial.specs.declared.term.Term.{Term}
use Rattle.polynomial.specs.Polynomial.{Poly, exponents, leading}

-- x2, or x2^3
abbrev pub power_text : ℕ → ℕ → List ℕ
power_text v e = codes "x" ++ (decimal v ++ cond (e == 1) [] (codes "^" ++ decimal e))

-- the powers from variable v on: the mark stands before the first, and a star before each further one
abbrev pub powers_text : ℕ → List ℕ → List ℕ → List ℕ
powers_text v mark [] = []
powers_text v mark (e ∷ m) = cond (e == 0) (powers_text (suc v) mark m) (mark ++ (power_text v e ++ powers_text (suc v) (codes "*") m))

-- the coefficient is written unless it is 1 before a power
abbrev pub has_coefficient : Term → Bool
has_coefficient t = degree (exponents t) == 0 || not (t.coefficient == 1)

abbrev pub term_text : Term → List ℕ
term_text t = cond (has_coefficient t) (decimal t.coefficient ++ powers_text 1 (codes "*") (exponents t)) (powers_text 1 [] (exponents t))

-- the terms behind the first
abbrev pub behind_text : Poly → List ℕ
behind_text [] = []
behind_text (t ∷ f) = codes " + " ++ (term_text t ++ behind_text f)

abbrev pub poly_text : Poly → List ℕ
poly_text [] = codes "0"
poly_text (t ∷ f) = term_text t ++ behind_text f

-- variable v is multiplicative for row k
abbrev pub is_multiplicative : Split → List (List ℕ) → ℕ → ℕ → Bool
is_multiplicative D U k v = unwrap_or (D U k v) false

-- those of r variables from v on that pass the test: the mark stands before the first, and a comma before each further one
abbrev pub variables_text : (ℕ → Bool) → ℕ → List ℕ → ℕ → List ℕ
variables_text test v mark zero = []
variables_text test v mark (suc r) = cond (test v) (mark ++ (codes "x" ++ (decimal v ++ variables_text test (suc v) (codes ", ") r))) (variables_text test (suc v) mark r)

-- row k with its multiplicative variables, as 2: x1 + 2*x2 {x1, x2}
abbrev pub row_text : Split → List (List ℕ) → ℕ → ℕ → Poly → List ℕ
row_text D U n k f =
    decimal k ++ (codes ": " ++ (poly_text f ++ (codes " {" ++ (variables_text (is_multiplicative D U k) 1 [] n ++ codes "}\n"))))

-- the rows from number k on
abbrev pub rows_text : Split → List (List ℕ) → ℕ → ℕ → List Poly → List ℕ
rows_text D U n k [] = []
rows_text D U n k (f ∷ fs) = row_text D U n k f ++ rows_text D U n (suc k) fs

-- the names of orders and divisions, by their codes
abbrev pub order_text : ℕ → List ℕ
order_text code = cond (code == 1) (codes "lex") (cond (code == 2) (codes "deglex") (codes "degrevlex"))

abbrev pub division_text : ℕ → List ℕ
division_text code = cond (code == 1) (codes "Janet") (codes "Thomas")

-- as GF(3), variables 2, lex, Janet, rows 2
abbrev pub setting_text : ℕ → ℕ → ℕ → ℕ → ℕ → List ℕ
setting_text modulus n order division rows =
    (codes "GF(" ++ (decimal modulus ++ (codes "), variables " ++ (decimal n ++ codes ", "))))
    ++ ((order_text order ++ (codes ", " ++ (division_text division ++ codes ", ")))
    ++ (codes "rows " ++ (decimal rows ++ codes "\n")))

abbrev pub table_text : Split → ℕ → ℕ → ℕ → ℕ → List Poly → List ℕ
table_text D modulus n order division fs =
    setting_text modulus n order division (length fs) ++ rows_text D (map leading fs) n 1 fs
