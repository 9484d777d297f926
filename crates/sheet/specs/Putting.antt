-- Terms or bytes put to the front of what a caller lent. Only contracts of private functions use these words.
use Rattle.std.specs.Prelude.{◌≡◌, ℕ, ◌<◌, ◌≤◌, List, length, Ok, Err, Result}
use Rattle.involutive.specs.Answers.{front}
use Rattle.calls.specs.declared.refusal.Refusal.{Refusal}
use Rattle.calls.specs.declared.refusal.Refusal.TheVariants.{Short}

-- all of g where it fits, and else nothing but how many are needed
abbrev pub Put : {A : Type 0} → List A → List A → Result ℕ Refusal → List A → Type 0
Put g out (Ok n) out' = (n ≡ length g) × (length g ≤ length out) × (out' ≡ front g out)
Put g out (Err r) out' = (r ≡ Short (length g)) × (length out < length g) × (out' ≡ out)
