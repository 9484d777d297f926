-- What is said of an answer that is there, of that answer.
use Rattle.std.proofs.Common.{◌≡◌, Some, None, Option, IfSome, ap, subst}
use Rattle.std.specs.Option.{is_some}
use Rattle.std.proofs.lemmas.Bool.{false≢true}

pub answered : {A : Type 0} (Q : A → Type 0) (o : Option A) (a : A) → IfSome o Q → o ≡ Some a → Q a
answered Q None a m e = absurd (false≢true (ap is_some e))
answered Q (Some b) a m e = subst Q (some_same b a e) m
  where
    some_same : {A : Type 0} (b a : A) → ◌≡◌ {A = Option A} (Some b) (Some a) → b ≡ a
    some_same b a e = cc e
