-- The text of an answer line: fields in decimal and lower-case hexadecimal, one space between them, and the end of the line.
use Rattle.std.specs.Prelude.{ℕ, ◌/◌, ◌%◌, false, List, [], ◌∷◌, ◌++◌, codes, decimal}
use Rattle.std.specs.Fmt.{digit_glyph}
use Rattle.polynomial.specs.Bytes.{poly_bytes}
use Rattle.lines.specs.declared.More.{More}
use Rattle.lines.specs.declared.Line.{Line}
use Rattle.lines.specs.declared.More.TheVariants.{Nothing, Count, Bytes, Terms}

-- two hexadecimal digits to a byte
abbrev pub hexed : List ℕ → List ℕ
hexed [] = []
hexed (b ∷ bs) = digit_glyph false (b / 16) ∷ digit_glyph false (b % 16) ∷ hexed bs

-- the offset of the command, its byte, the refusal's number (0 when granted) and the value
abbrev pub fields : ℕ → ℕ → ℕ → ℕ → List ℕ
fields at b number value = decimal at ++ (codes " " ++ (hexed (b ∷ []) ++ (codes " " ++ (decimal number ++ (codes " " ++ decimal value)))))

-- the four fields, what follows them, and the end
abbrev pub line : ℕ → ℕ → ℕ → ℕ → List ℕ → List ℕ
line at b number value more = fields at b number value ++ (more ++ codes "\n")

-- bytes in hexadecimal, or no field when there are none
abbrev pub bytes_field : List ℕ → List ℕ
bytes_field [] = []
bytes_field (b ∷ bs) = codes " " ++ hexed (b ∷ bs)

-- a number more
abbrev pub count_field : ℕ → List ℕ
count_field n = codes " " ++ decimal n

-- what follows the four fields
abbrev pub more_text : More → List ℕ
more_text Nothing = []
more_text (Count n) = count_field n
more_text (Bytes bytes) = bytes_field bytes.now
more_text (Terms terms) = bytes_field (poly_bytes terms.now)

-- the text of a line
abbrev pub line_text : Line → List ℕ
line_text l = line l.at l.byte l.number l.value (more_text l.more)
