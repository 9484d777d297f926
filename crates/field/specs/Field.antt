-- What a finite field is: its size, the meaning of its operations on the numbers below the size, and their laws.
-- Then what the methods answer.
use Rattle.std.specs.Prelude.{◌≡◌, ℕ, ◌<◌, ◌≤◌, Bool, true, false, cond, Some, None, Option, nat_lt}

pub record FieldMeaning : Type 0 where
  pub q : ℕ
  pub add : ℕ → ℕ → ℕ
  pub neg : ℕ → ℕ
  pub mul : ℕ → ℕ → ℕ
  pub inv : ℕ → ℕ

pub record FieldLaws (F : FieldMeaning) : Type 0 where
  pub size : F.q ≤ 65535
  pub differ : 1 < F.q
  pub add_below : (a b : ℕ) → a < F.q → b < F.q → F.add a b < F.q
  pub neg_below : (a : ℕ) → a < F.q → F.neg a < F.q
  pub mul_below : (a b : ℕ) → a < F.q → b < F.q → F.mul a b < F.q
  pub inv_below : (a : ℕ) → 0 < a → a < F.q → F.inv a < F.q
  pub add_comm : (a b : ℕ) → a < F.q → b < F.q → F.add a b ≡ F.add b a
  pub add_assoc : (a b c : ℕ) → a < F.q → b < F.q → c < F.q → F.add (F.add a b) c ≡ F.add a (F.add b c)
  pub mul_comm : (a b : ℕ) → a < F.q → b < F.q → F.mul a b ≡ F.mul b a
  pub mul_assoc : (a b c : ℕ) → a < F.q → b < F.q → c < F.q → F.mul (F.mul a b) c ≡ F.mul a (F.mul b c)
  pub distributes : (a b c : ℕ) → a < F.q → b < F.q → c < F.q → F.mul a (F.add b c) ≡ F.add (F.mul a b) (F.mul a c)
  pub zero_neutral : (a : ℕ) → a < F.q → F.add 0 a ≡ a
  pub one_neutral : (a : ℕ) → a < F.q → F.mul 1 a ≡ a
  pub negates : (a : ℕ) → a < F.q → F.add a (F.neg a) ≡ 0
  pub inverts : (a : ℕ) → 0 < a → a < F.q → F.mul a (F.inv a) ≡ 1

-- a is the code of an element of a field of q elements
abbrev pub code : ℕ → ℕ → Bool
code q a = nat_lt a q

-- both are
abbrev pub codes : ℕ → ℕ → ℕ → Bool
codes q a b = cond (code q a) (code q b) false

-- a is, and of another element than zero
abbrev pub nonzero_code : ℕ → ℕ → Bool
nonzero_code q a = cond (nat_lt 0 a) (code q a) false

-- the value where the test is passed, and a refusal elsewhere
abbrev pub checked : Bool → ℕ → Option ℕ
checked true n = Some n
checked false n = None
