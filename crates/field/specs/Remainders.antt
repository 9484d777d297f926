-- Products and powers modulo p.
use Rattle.std.specs.Prelude.{◌≡◌, ℕ, zero, suc, ◌+◌, ◌*◌, ◌/◌, ◌%◌, ◌^◌}
use Rattle.std.proofs.Common.{sym, ap, ◌∙◌, add-mul, mul_comm, mul_assoc, pow-suc, arith}
use Rattle.std.proofs.Math.Nat.{div-add-mod, mul-add-mod_self_left, pow-zero, pow-succ'}

pub mod_mul_mod : (a b p : ℕ) → (a % p * b) % p ≡ (a * b) % p
mod_mul_mod a b p =
    sym (ap (λ x. (x * b) % p) (sym (div-add-mod a p)) ∙ ap (λ x. x % p) (add-mul (p * (a / p)) (a % p) b ∙ ap (λ x. x + a % p * b) (mul_assoc p (a / p) b))
    ∙ mul-add-mod_self_left p (a / p * b) (a % p * b))

pub mul_mod_mod : (a b p : ℕ) → (a * (b % p)) % p ≡ (a * b) % p
mul_mod_mod a b p = ap (λ x. x % p) (mul_comm a (b % p)) ∙ mod_mul_mod b a p ∙ ap (λ x. x % p) (mul_comm b a)

pub pow_mod : (a n p : ℕ) → ((a % p) ^ n) % p ≡ (a ^ n) % p
pow_mod a zero p = ap (λ x. x % p) (pow-zero (a % p) ∙ sym (pow-zero a))
pow_mod a (suc n) p =
    ap (λ x. x % p) (pow-suc (a % p) n) ∙ sym (mod_mul_mod ((a % p) ^ n) (a % p) p) ∙ ap (λ x. (x * (a % p)) % p) (pow_mod a n p)
    ∙ mod_mul_mod (a ^ n) (a % p) p ∙ mul_mod_mod (a ^ n) a p ∙ ap (λ x. x % p) (sym (pow-suc a n))

pub pow_square : (a n : ℕ) → (a * a) ^ n ≡ a ^ (n + n)
pow_square a zero = pow-zero (a * a) ∙ sym (pow-zero a)
pow_square a (suc n) =
    pow-suc (a * a) n ∙ ap (λ x. x * (a * a)) (pow_square a n) ∙ sym (mul_assoc (a ^ (n + n)) a a)
    ∙ ap (λ x. x * a) (sym (pow-suc a (n + n))) ∙ sym (pow-suc a (suc (n + n))) ∙ ap (λ m. a ^ m) (omega arith)

pub pow_of_square_mod : (r a n p : ℕ) → (r * ((a * a) % p) ^ n) % p ≡ (r * a ^ (n + n)) % p
pow_of_square_mod r a n p =
    sym (mul_mod_mod r (((a * a) % p) ^ n) p) ∙ ap (λ x. (r * x) % p) (pow_mod (a * a) n p) ∙ mul_mod_mod r ((a * a) ^ n) p
    ∙ ap (λ x. (r * x) % p) (pow_square a n)

-- A turn of square-and-multiply keeps r * a^n modulo p: at an even n, and at an odd one.
pub even_turn : (r a n p : ℕ) → n % 2 ≡ 0 → (r * ((a * a) % p) ^ (n / 2)) % p ≡ (r * a ^ n) % p
even_turn r a n p e = pow_of_square_mod r a (n / 2) p ∙ ap (λ m. (r * a ^ m) % p) (omega arith)

pub odd_turn : (r a n p : ℕ) → n % 2 ≡ 1 → ((r * a) % p * ((a * a) % p) ^ (n / 2)) % p ≡ (r * a ^ n) % p
odd_turn r a n p e =
    mod_mul_mod (r * a) (((a * a) % p) ^ (n / 2)) p ∙ pow_of_square_mod (r * a) a (n / 2) p
    ∙ ap (λ x. x % p) (mul_assoc r a (a ^ (n / 2 + n / 2)) ∙ ap (λ x. r * x) (sym (pow-succ' a (n / 2 + n / 2)) ∙ ap (λ m. a ^ m) (omega arith)))
