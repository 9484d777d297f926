-- Where its numbers are codes of the field, the code computes what the field means.
use Rattle.std.proofs.Common.{◌≡◌, ℕ, ◌<◌, Bool, true, false, cond, ltb, unwrap_or, sym, refl, ap, ◌∙◌, ⊎_elim, arith}
use Rattle.std.proofs.lemmas.Bool.{lt-ltb, cases_eq, false≢true}
use Rattle.field.specs.Field.{FieldMeaning, FieldLaws, checked}
use Rattle.involutive.proofs.Algebra
use Rattle.involutive.proofs.Typing.{base, positive}
use Rattle.reduction.specs.Merging.{code_sum, code_product, code_negative}

checked_yes : (x : Bool) (v : ℕ) → x ≡ true → unwrap_or (checked x v) 0 ≡ v
checked_yes true v e = refl
checked_yes false v e = absurd (false≢true e)

both_yes : (x y : Bool) → x ≡ true → y ≡ true → cond x y false ≡ true
both_yes true y e d = d
both_yes false y e d = absurd (false≢true e)

module _ (F : FieldMeaning) (L : FieldLaws F) where
  pub sum_is : (a b : ℕ) → a < F.q → b < F.q → code_sum F a b ≡ F.add a b
  sum_is a b h k = checked_yes _ (F.add a b) (both_yes (ltb a F.q) (ltb b F.q) (lt-ltb a F.q h) (lt-ltb b F.q k))

  pub product_is : (a b : ℕ) → a < F.q → b < F.q → code_product F a b ≡ F.mul a b
  product_is a b h k = checked_yes _ (F.mul a b) (both_yes (ltb a F.q) (ltb b F.q) (lt-ltb a F.q h) (lt-ltb b F.q k))

  pub negative_is : (a : ℕ) → a < F.q → code_negative F a ≡ F.neg a
  negative_is a h = checked_yes _ (F.neg a) (lt-ltb a F.q h)

  pub add_swap : (a b c : ℕ) → a < F.q → b < F.q → c < F.q → F.add a (F.add b c) ≡ F.add b (F.add a c)
  add_swap a b c p q r = sym (L.add_assoc a b c p q r) ∙ ap (λ x. F.add x c) (L.add_comm a b p q) ∙ L.add_assoc b a c q p r

  -- a and −a cancel
  pub add_neg : (a x : ℕ) → a < F.q → x < F.q → F.add a (F.add (F.neg a) x) ≡ x
  add_neg a x p r = sym (L.add_assoc a (F.neg a) x p (L.neg_below a p) r) ∙ ap (λ y. F.add y x) (L.negates a p) ∙ L.zero_neutral x r

  pub mul_neg : (c d : ℕ) → c < F.q → d < F.q → F.mul (F.neg c) d ≡ F.neg (F.mul c d)
  mul_neg c d p r =
      L.mul_comm (F.neg c) d (L.neg_below c p) r ∙ ap (λ x. x.0) (Algebra.*-neg (base L 0) (d, r) (c, p)) ∙ ap F.neg (L.mul_comm d c r p)

  pub neg_positive : (a : ℕ) → 0 < a → a < F.q → 0 < F.neg a
  neg_positive a h p = ⊎_elim (λ e. absurd (no e)) (λ n. omega arith) (cases_eq (F.neg a) 0)
    where
      no : F.neg a ≡ 0 → ⊥
      no e =
          let z : a ≡ 0 = sym (L.zero_neutral a p) ∙ L.add_comm 0 a (positive L) p ∙ ap (F.add a) (sym e) ∙ L.negates a p in
          omega arith
