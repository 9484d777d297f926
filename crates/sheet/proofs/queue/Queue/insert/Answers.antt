use Rattle.std.proofs.Common.{◌≡◌, ◌+◌, ◌<◌, ◌≤◌, true, false, List, length, is_ok, vec_items, vec_len, vec_capacity, sym, ◌∙◌, subst, arith, rules}
use borrow.Author.Tests.{tests}
use Rattle.std.specs.List.{insert}
use Rattle.std.specs.List.Sorted.{IsPartitionedBy, IsPartitionPoint}
use Rattle.std.proofs.lemmas.Bool.{cond-true}
use Rattle.std.proofs.lemmas.List.Sorted.{IsPartitionPoint-from_clause}
use Rattle.sheet.specs.declared.queue.Pick.{Pick}
use Rattle.sheet.specs.Queueing.{Filled}
use Rattle.sheet.proofs.Queues.{goes, parted, filled_more}
use Rattle.sheet.proofs.queue.Queue.insert.Goals as goal

pub returns-clause-filled : goal.returns-clause-filled
returns-clause-filled g c n leads N F l m b r w e =
    let O = g.O.Order.meaning c.args.order.now in
    let Q = g.met.O.Order.laws c.args.order.now in
    let p = c.args.pick in
    let picks = vec_items c.args.self.now.picks in
    let slice = c.deref.result.now in
    let at = c.partition_point-at.result in
    let s : slice ≡ picks = c.deref.ensures.value in
    let point : IsPartitionPoint (λ y. goes O p y ≡ true) (λ y. goes O p y ≡ false) slice at =
    IsPartitionPoint-from_clause (goes O p) slice at c.partition_point-at.ensures.partitioned (subst (IsPartitionedBy (goes O p)) (sym s) (parted O Q n leads N picks p F l r w e)) (λ a x f k. search (rules, tests)) in
    let k : vec_len c.args.self.now.picks ≡ length picks = search rules in
    let few = F.few in
    let h : vec_len c.args.self.now.picks < vec_capacity c.args.self.now.picks = omega (arith, k, few, l, m, b, w, c.args.self.now.room) in
    let t : at ≤ length picks = subst (λ (x : List Pick). at ≤ length x) s c.partition_point-at.ensures.bound in
    let q : vec_items c.insert.new.self ≡ insert picks at p = c.insert.ensures.items ∙ cond-true (is_ok c.insert.result) _ _ (c.insert.ensures.succeeds h) in
    subst (Filled O n leads N (p.variable + 1)) (sym q) (filled_more O Q n leads N picks p F l r w e at t (subst (λ (x : List Pick). IsPartitionPoint (λ y. goes O p y ≡ true) (λ y. goes O p y ≡ false) x at) s point))
