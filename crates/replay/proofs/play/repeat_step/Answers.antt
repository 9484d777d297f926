use Rattle.std.proofs.Common.{◌≡◌, ◌+◌, ◌-◌, suc, None, Ok, inl, inr, refl, subst, ◌∙◌, arith}
use Rattle.calls.specs.Told.{stepped}
use Rattle.involutive.specs.Answers.{Steps}
use Rattle.replay.specs.Replay.{Stepping, used_up, on_closed, on_denial}
use Rattle.replay.proofs.Steppings.{Counts, stood_first, stood_more, stood_last, said, known}
use Rattle.replay.proofs.play.repeat_step.Goals.{in-Marked, in-Appended}
use Rattle.replay.proofs.play.repeat_step.Goals as goal

pub steps-init : goal.steps-init
steps-init g c = (refl, λ log. stood_first (omega arith))

pub steps-preserved : goal.steps-preserved
steps-preserved g c =
    let S = g.C.Calls.setting c.args.sheet.now in
    let s = g.C.Calls.state c.steps.sheet in
    let s' = g.C.Calls.state c.step.new.self in
    let i = c.steps.invariant in
    let counts : Steps S s (stepped (Ok c.in-Ok.step)) s' → Counts S s s' = λ st. elim c.match-step-2.branch [ in-Marked w ↦ inl (known w.in-Marked.is st) | in-Appended w ↦ inr (known w.in-Appended.is st) ] in
    let left : c.args.count - c.steps.granted ≡ suc (c.args.count - (c.steps.granted + 1)) = omega (arith, c.steps-test.true) in (
      c.step.ensures.kept ∙ i.0,
      λ log. stood_more left (i.1 log) (counts (said i.0 c.in-Ok.ensures.answer)),
    )

pub returns-in-Err-clause-steps : goal.returns-in-Err-clause-steps
returns-in-Err-clause-steps g c = λ log.
    let i = c.steps.invariant in
    let left : c.args.count - c.steps.granted ≡ suc (c.args.count - (c.steps.granted + 1)) = omega (arith, c.steps-test.true) in
    (_, stood_last left (i.1 log) (on_denial (said i.0 c.in-Err.ensures.answer)))

pub returns-in-Closed-clause-steps : goal.returns-in-Closed-clause-steps
returns-in-Closed-clause-steps g c = λ log.
    let i = c.steps.invariant in
    let left : c.args.count - c.steps.granted ≡ suc (c.args.count - (c.steps.granted + 1)) = omega (arith, c.steps-test.true) in
    (_, stood_last left (i.1 log) (on_closed (known c.in-Closed.is (said i.0 c.in-Ok.ensures.answer))))

pub returns-clause-steps : goal.returns-clause-steps
returns-clause-steps g c = λ log.
    let all : c.steps.granted ≡ c.args.count = omega (arith, c.steps-test.false, c.steps.auto.granted-end) in
    let none_left : c.args.count - c.steps.granted ≡ 0 = omega (arith, c.steps-test.false) in
    let w' = c.steps.invariant.1 log in
    (w'.log, subst (λ k. Stepping (g.C.Calls.setting c.args.sheet.now) (g.C.Calls.state c.args.sheet.now) log c.args.count k None (g.C.Calls.state c.steps.sheet) w'.log) all (stood_last none_left w' used_up))
