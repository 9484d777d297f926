use Rattle.std.proofs.Common.{◌≡◌, ◌+◌, ◌-◌, ◌∷◌, [], ◌++◌, length, vec_items, sym, ap, ◌∙◌, subst, arith, length-append}
use Rattle.std.proofs.lemmas.List.{get_or_push}
use Rattle.sheet.specs.Queueing.{capped_raise, Filled}
use Rattle.sheet.proofs.Queues.{filled_begin, filled_end}
use Rattle.sheet.proofs.queue.Queue.push_row.Goals as goal

pub loop-i-init : goal.loop-i-init
loop-i-init g c = (cc, λ leads F l m w. filled_begin (g.O.Order.meaning c.args.order.now) c.args.variables leads (vec_items c.args.self.now.picks) c.args.lead.now.exponents F w)

pub loop-i-preserved : goal.loop-i-preserved
loop-i-preserved g c = (
  c.insert.ensures.next ∙ c.loop-i.invariant.0,
  λ leads F l m w.
      let lead = c.args.lead.now.exponents in
      let long = length-append leads (lead ∷ []) in
      let d : c.args.row - 1 ≡ length leads = omega (arith, l) in
      c.insert.ensures.filled c.args.variables (leads ++ (lead ∷ [])) (length leads) (c.loop-i.invariant.1 leads F l m w) long (omega (arith, l, m)) c.requires (sym l) (omega arith, omega (arith, c.loop-i-test.true))
      (c.raise.ensures ∙ ap (λ u. capped_raise u (c.loop-i.i + 1)) (sym (get_or_push leads lead [] (c.args.row - 1) (sym d)))),
)

pub returns-clause-queued : goal.returns-clause-queued
returns-clause-queued g c leads F l m w =
    let O = g.O.Order.meaning c.args.order.now in
    let lead = c.args.lead.now.exponents in
    let picks = vec_items c.loop-i.self.picks in
    let e : c.loop-i.i ≡ c.args.variables = omega (arith, c.loop-i-test.false, c.loop-i.auto.i-end) in
    filled_end O c.args.variables leads picks lead c.requires (subst (λ k. Filled O c.args.variables (leads ++ (lead ∷ [])) (length leads) (k + 1) picks) e (c.loop-i.invariant.1 leads F l m w))
