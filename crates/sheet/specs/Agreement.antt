-- That the queue has the rows' pairs in order is a fact of a sheet's type, which holds one proof of it: any two proofs of it are
-- equal.
use Rattle.std.specs.Prelude.{ℕ, List}
use Rattle.std.proofs.Props.{props}
use Rattle.monomial.specs.Order.{Compare}
use Rattle.sheet.specs.declared.queue.Pick.{Pick}
use Rattle.sheet.specs.Queueing.{Queued}

pub queued_prop : (O : Compare) (n : ℕ) (leads : List (List ℕ)) (picks : List Pick) → IsProp (Queued O n leads picks)
queued_prop O n leads picks = hlevel props
