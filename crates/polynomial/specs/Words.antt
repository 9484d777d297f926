-- Why a polynomial that is handed over is refused, in words.
use Rattle.std.specs.Prelude.{ℕ, List, codes}
use Rattle.polynomial.specs.declared.refusal.Refusal.{Refusal}
use Rattle.polynomial.specs.declared.refusal.Refusal.TheVariants.{TooManyTerms, Coefficient, Exponent, NotFalling}

abbrev pub refusal_text : Refusal → List ℕ
refusal_text TooManyTerms = codes "more than 40 terms"
refusal_text (Coefficient k) = codes "coefficient is 0 or no code"
refusal_text (Exponent k) = codes "exponent out of range"
refusal_text (NotFalling k) = codes "term does not fall"
