-- Text in hexadecimal, piece by piece.
use Rattle.std.proofs.Common.{◌≡◌, ℕ, suc, ◌+◌, ◌*◌, ◌/◌, ◌%◌, ◌<◌, ◌≤◌, false, List, [], ◌∷◌, ◌++◌, length, get_or, take, drop, nat_lt, inl, inr, codes, refl, sym, ap, ◌∙◌, append_assoc, append-nil, arith}
use Rattle.std.proofs.lemmas.List.{drop_all, take_more}
use Rattle.std.proofs.lemmas.Bool.{cases_Bool, ltb-true}
use Rattle.std.proofs.lemmas.Str.{IsUtf8-from_ascii}
use Rattle.std.proofs.lemmas.Str.Ascii.{IsAscii-nil, IsAscii-cons}
use Rattle.std.specs.Fmt.{digit_glyph}
use Rattle.std.specs.Str.{IsAscii, IsUtf8}
use Rattle.polynomial.specs.declared.term.Term.{Term}
use Rattle.polynomial.specs.Polynomial.{Poly, term}
use Rattle.polynomial.specs.Bytes.{term_bytes, poly_bytes}
use Rattle.lines.specs.Line.{hexed, bytes_field}

hexed_append : (a b : List ℕ) → hexed (a ++ b) ≡ hexed a ++ hexed b
hexed_append [] b = refl
hexed_append (x ∷ a) b = rw (hexed_append a b)

-- some bytes first, and then the rest
pub hexed_first : (all bytes rest : List ℕ) → all ≡ bytes ++ rest → hexed bytes ++ hexed rest ≡ hexed all
hexed_first all bytes rest e = sym (hexed_append bytes rest) ∙ ap hexed (sym e)

-- all digits stand there
pub digits_all : (bytes buffer : List ℕ) (i : ℕ) → i ≡ length bytes → take (2 * i) buffer ++ hexed (drop i bytes) ≡ hexed bytes
    → take (2 * length bytes) buffer ≡ hexed bytes
digits_all bytes buffer i e so_far =
    let none = drop_all i bytes (omega (arith, e)) in
    rw e at (rw (none, append-nil) at so_far)

-- digits are ASCII
glyph_ascii : (d : ℕ) → d < 16 → digit_glyph false d < 128
glyph_ascii d p = elim (cases_Bool (nat_lt d 10)) [
  | inl e ↦ let q = ltb-true d 10 e in rw e (omega arith)
  | inr e ↦ rw e (omega arith)
]

hexed_ascii : (bs : List ℕ) → ((i : ℕ) → get_or bs i 0 < 256) → IsAscii (hexed bs)
hexed_ascii [] h = IsAscii-nil
hexed_ascii (b ∷ bs) h =
    let fits : b < 256 = h 0 in
    let rest = hexed_ascii bs (λ i. h (suc i)) in
    IsAscii-cons (digit_glyph false (b / 16)) (digit_glyph false (b % 16) ∷ hexed bs) (glyph_ascii (b / 16) (omega arith))
    (IsAscii-cons (digit_glyph false (b % 16)) (hexed bs) (glyph_ascii (b % 16) (omega arith)) rest)

pub hexed_text : (bs : List ℕ) → ((i : ℕ) → get_or bs i 0 < 256) → IsUtf8 (hexed bs)
hexed_text bs h = IsUtf8-from_ascii (hexed bs) (hexed_ascii bs h)

-- one term more
hexed_terms_append : (f : Poly) (t : Term) → hexed (poly_bytes (f ++ (t ∷ []))) ≡ hexed (poly_bytes f) ++ hexed (term_bytes t)
hexed_terms_append [] t = ap hexed (append-nil (term_bytes t))
hexed_terms_append (u ∷ f) t =
    hexed_append (term_bytes u) (poly_bytes (f ++ (t ∷ []))) ∙
    (ap (λ x. hexed (term_bytes u) ++ x) (hexed_terms_append f t) ∙
    (sym (append_assoc (hexed (term_bytes u)) (hexed (poly_bytes f)) (hexed (term_bytes t))) ∙
    ap (λ x. x ++ hexed (term_bytes t)) (sym (hexed_append (term_bytes u) (poly_bytes f)))))

pub hexed_term_more : (f : Poly) (i : ℕ) → i < length f → hexed (poly_bytes (take (i + 1) f)) ≡ hexed (poly_bytes (take i f)) ++ hexed (term_bytes (get_or f i (term 0 [])))
hexed_term_more f i p = ap (λ g. hexed (poly_bytes g)) (take_more f i (term 0 []) p) ∙ hexed_terms_append (take i f) (get_or f i (term 0 []))

-- some terms have a field
pub terms_field : (f : Poly) → 1 ≤ length f → codes " " ++ hexed (poly_bytes f) ≡ bytes_field (poly_bytes f)
terms_field [] p = absurd (omega arith)
terms_field (t ∷ f) p = refl
