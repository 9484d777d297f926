-- The integers modulo a listed prime are a field. That a^(p-2) is the inverse of a is computed at each a of each prime.
use Rattle.std.specs.Prelude.{◌≡◌, ℕ, ◌+◌, ◌-◌, ◌*◌, ◌%◌, ◌^◌, ◌<◌, Bool, true, cond, ◌==◌, refl}
use Rattle.std.proofs.Common.{sym, ap, ◌∙◌, mod-lt, mod-eq_of_lt, add_comm, add_assoc, mul_comm, mul_assoc, one-mul, mul-add, arith}
use Rattle.std.proofs.Math.Nat.{mod_self, mod-add-mod, add-mod-mod}
use Rattle.std.proofs.lemmas.Bool.{eqb-true, ne_eqb, cond-false}
use Rattle.field.specs.Field.{FieldLaws}
use Rattle.field.specs.Primes.{primes, listed, prime_meaning}
use Rattle.field.specs.Computed.{every_below, at_below, every_of, at_of}
use Rattle.field.specs.PrimeList.{listed_bounds}
use Rattle.field.specs.Remainders.{mod_mul_mod, mul_mod_mod}

abbrev times_inverse : ℕ → ℕ → ℕ
times_inverse p a = (a * ((a ^ (p - 2)) % p)) % p

abbrev inverse_test : ℕ → ℕ → Bool
inverse_test p a = cond (a == 0) true (times_inverse p a == 1)

all_inverses : every_of (λ p. every_below (inverse_test p) p) primes ≡ true
all_inverses = refl

pub inverse_right : (p : ℕ) → listed p ≡ true → (a : ℕ) → 0 < a → a < p → times_inverse p a ≡ 1
unfolding listed
inverse_right p t a pos h =
    let test = at_below (inverse_test p) p (at_of (λ p. every_below (inverse_test p) p) primes all_inverses p t) a h in
    eqb-true (times_inverse p a) 1 (sym (cond-false (a == 0) true (times_inverse p a == 1) (ne_eqb a 0 (λ e. omega arith))) ∙ test)

pub prime_laws : (p : ℕ) → listed p ≡ true → FieldLaws (prime_meaning p)
prime_laws p t =
    let bounds = listed_bounds p t in
    let pos : 0 < p = omega arith in
    record {
      size = omega arith;
      differ = bounds.0;
      add_below = λ a b ha hb. mod-lt (a + b) pos;
      neg_below = λ a ha. mod-lt (p - a) pos;
      mul_below = λ a b ha hb. mod-lt (a * b) pos;
      inv_below = λ a pos_a ha. mod-lt (a ^ (p - 2)) pos;
      add_comm = λ a b ha hb. ap (λ x. x % p) (add_comm a b);
      add_assoc = λ a b c ha hb hc. mod-add-mod (a + b) p c ∙ ap (λ x. x % p) (add_assoc a b c) ∙ sym (add-mod-mod a (b + c) p);
      mul_comm = λ a b ha hb. ap (λ x. x % p) (mul_comm a b);
      mul_assoc = λ a b c ha hb hc. mod_mul_mod (a * b) c p ∙ ap (λ x. x % p) (mul_assoc a b c) ∙ sym (mul_mod_mod a (b * c) p);
      distributes = λ a b c ha hb hc. mul_mod_mod a (b + c) p ∙ ap (λ x. x % p) (mul-add a b c) ∙ sym (mod-add-mod (a * b) p ((a * c) % p) ∙ add-mod-mod (a * b) (a * c) p);
      zero_neutral = λ a ha. ap (λ x. x % p) (omega arith) ∙ mod-eq_of_lt ha;
      one_neutral = λ a ha. ap (λ x. x % p) (one-mul a) ∙ mod-eq_of_lt ha;
      negates = λ a ha. add-mod-mod a (p - a) p ∙ ap (λ x. x % p) (omega arith) ∙ mod_self p;
      inverts = inverse_right p t;
    }
