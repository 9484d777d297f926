-- The laws of the field of four elements, each computed at all of them.
use Rattle.std.specs.Prelude.{◌≡◌, ℕ, ◌<◌, Bool, true, cond, ◌==◌, nat_eq, nat_lt, refl}
use Rattle.std.proofs.Common.{sym, ◌∙◌, arith, lit<, lit≤}
use Rattle.std.proofs.lemmas.Bool.{ltb-true, eqb-true, ne_eqb, cond-false}
use Rattle.field.specs.Field.{FieldMeaning, FieldLaws}
use Rattle.field.specs.Four.{four_meaning}
use Rattle.field.specs.Computed.{every_below, at_below}

abbrev F : FieldMeaning
F = four_meaning

at_one : (f : ℕ → Bool) → every_below f 4 ≡ true → (a : ℕ) → a < 4 → f a ≡ true
at_one f t = at_below f 4 t

at_two : (f : ℕ → ℕ → Bool) → every_below (λ a. every_below (f a) 4) 4 ≡ true → (a b : ℕ) → a < 4 → b < 4 → f a b ≡ true
at_two f t a b ha hb = at_one (f a) (at_one (λ a. every_below (f a) 4) t a ha) b hb

at_three : (f : ℕ → ℕ → ℕ → Bool) → every_below (λ a. every_below (λ b. every_below (f a b) 4) 4) 4 ≡ true → (a b c : ℕ) → a < 4 → b < 4 → c < 4 → f a b c ≡ true
at_three f t a b c ha hb hc = at_two (f a) (at_one (λ a. every_below (λ b. every_below (f a b) 4) 4) t a ha) b c hb hc

inverse_right : (a : ℕ) → 0 < a → a < 4 → F.mul a (F.inv a) ≡ 1
inverse_right a pos h =
    let test = at_one (λ a. cond (a == 0) true (F.mul a (F.inv a) == 1)) refl a h in
    eqb-true (F.mul a (F.inv a)) 1 (sym (cond-false (a == 0) true (F.mul a (F.inv a) == 1) (ne_eqb a 0 (λ e. omega arith))) ∙ test)

pub four_laws : FieldLaws four_meaning
four_laws = record {
  size = lit≤ tt;
  differ = lit< tt;
  add_below = λ a b ha hb. ltb-true _ _ (at_two (λ a b. nat_lt (F.add a b) 4) refl a b ha hb);
  neg_below = λ a ha. ha;
  mul_below = λ a b ha hb. ltb-true _ _ (at_two (λ a b. nat_lt (F.mul a b) 4) refl a b ha hb);
  inv_below = λ a pos ha. ltb-true _ _ (at_one (λ a. nat_lt (F.inv a) 4) refl a ha);
  add_comm = λ a b ha hb. eqb-true _ _ (at_two (λ a b. nat_eq (F.add a b) (F.add b a)) refl a b ha hb);
  add_assoc = λ a b c ha hb hc. eqb-true _ _ (at_three (λ a b c. nat_eq (F.add (F.add a b) c) (F.add a (F.add b c))) refl a b c ha hb hc);
  mul_comm = λ a b ha hb. eqb-true _ _ (at_two (λ a b. nat_eq (F.mul a b) (F.mul b a)) refl a b ha hb);
  mul_assoc = λ a b c ha hb hc. eqb-true _ _ (at_three (λ a b c. nat_eq (F.mul (F.mul a b) c) (F.mul a (F.mul b c))) refl a b c ha hb hc);
  distributes = λ a b c ha hb hc. eqb-true _ _ (at_three (λ a b c. nat_eq (F.mul a (F.add b c)) (F.add (F.mul a b) (F.mul a c))) refl a b c ha hb hc);
  zero_neutral = λ a ha. eqb-true _ _ (at_one (λ a. nat_eq (F.add 0 a) a) refl a ha);
  one_neutral = λ a ha. eqb-true _ _ (at_one (λ a. nat_eq (F.mul 1 a) a) refl a ha);
  negates = λ a ha. eqb-true _ _ (at_one (λ a. nat_eq (F.add a (F.neg a)) 0) refl a ha);
  inverts = inverse_right;
}
