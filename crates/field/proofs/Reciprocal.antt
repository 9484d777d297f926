-- A product in place of a division: with r = 2^24 / p + 1, the quotient x * r / 2^24 is x / p.
use Rattle.std.proofs.Common.{◌≡◌, ℕ, ◌+◌, ◌-◌, ◌*◌, ◌/◌, ◌%◌, ◌<◌, ◌≤◌, sym, ap, ◌∙◌, ⊎_elim, mod-lt, add-mul, mul-add, mul_comm, mul_assoc, arith}
use Rattle.std.proofs.Math.Nat.{div-add-mod, div-lt_iff_lt-mul, mul-le-mul_right}
use Rattle.std.proofs.lemmas.Nat.{mul-le}
use Rattle.std.proofs.lemmas.Bool.{cases_lt}

-- 255 * 255 * 255 is below 2^24
above_squares : (p r : ℕ) → p < 256 → 16777216 ≤ p * r → 65025 < r
above_squares p r small above = ⊎_elim (λ h. h) (λ h. let bound = mul-le p r 255 65025 (omega arith) h in absurd (omega arith)) (cases_lt 65025 r)

-- what x * r is above 2^24 * q, where x is p * q + s and p * r is 2^24 + e
close : (p q s r e : ℕ) → p < 256 → q < p → s < p → e ≤ p → p * r ≡ 16777216 + e → q * e + s * r < 16777216
close p q s r e small hq hs he is =
    let square : p * p ≤ 65025 = mul-le p p 255 255 (omega arith) (omega arith) in
    let large = above_squares p r small (omega arith) in
    let left : (q + 1) * e ≤ p * p = mul-le (q + 1) e p p (omega arith) he in
    let right : (s + 1) * r ≤ p * r = mul-le-mul_right r (omega arith) in
    omega (arith, add-mul q 1 e, add-mul s 1 r)

pub quotient : (x p r : ℕ) → 1 < p → p < 256 → x < p * p → r ≡ 16777216 / p + 1 → (x * r < 4294967296) × (x * r / 16777216 * p + x % p ≡ x)
quotient x p r big small below is =
    let pos : 0 < p = omega arith in
    let q = x / p in
    let s = x % p in
    let e = p - 16777216 % p in
    let hq : q < p = (div-lt_iff_lt-mul pos).1 below in
    let rest = mod-lt 16777216 pos in
    let over : p * r ≡ 16777216 + e = omega (arith, ap (λ y. p * y) is, mul-add p (16777216 / p) 1, div-add-mod 16777216 p) in
    let t = close p q s r e small hq (mod-lt x pos) (omega arith) over in
    let apart : x * r ≡ p * q * r + s * r = ap (λ y. y * r) (sym (div-add-mod x p)) ∙ add-mul (p * q) s r in
    let turned : p * q * r ≡ q * 16777216 + q * e = ap (λ y. y * r) (mul_comm p q) ∙ mul_assoc q p r ∙ ap (λ y. q * y) over ∙ mul-add q 16777216 e in
    let exact : x * r / 16777216 ≡ q = omega arith in
    (omega arith, ap (λ y. y * p + s) exact ∙ ap (λ y. y + s) (mul_comm q p) ∙ div-add-mod x p)
