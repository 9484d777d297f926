use Rattle.std.proofs.Common.{◌≡◌, ℕ, ◌+◌, ◌≤◌, List, [], ◌∷◌, ◌++◌, length, vec_items}
use Rattle.monomial.specs.Monomial.{Wide}
use Rattle.sheet.specs.Queueing.{Filled, Queued}
use Rattle.sheet.proofs.queue.Queue.push_row.Given as goal

abbrev pub invariant-loop-i : goal.invariant-loop-i
invariant-loop-i g l = (l.self.next ≡ 0) × ((leads : List (List ℕ)) → Queued (g.O.Order.meaning l.order) l.variables leads (vec_items l.initial.self.picks) → length leads + 1 ≡ l.row → l.row ≤ 32 → Wide l.lead.exponents → Filled (g.O.Order.meaning l.order) l.variables (leads ++ (l.lead.exponents ∷ [])) (length leads) (l.i + 1) (vec_items l.self.picks))
