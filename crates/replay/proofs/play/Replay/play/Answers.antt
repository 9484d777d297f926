use Rattle.std.proofs.Common.{[], refl, sym, ◌∙◌, append-nil, arith}
use Rattle.replay.proofs.Acting.{made_then, told_as}
use Rattle.replay.proofs.Playing.{reached_first, reached_line, reached_act, call_some, call_none, call_stop, long, acts_under}
use Rattle.replay.proofs.play.Replay.play.Goals as goal

pub loop-command-init : goal.loop-command-init
loop-command-init g c = (refl, omega arith, λ n log gs a. reached_first _ _ log gs (omega arith) n a)

pub returns-in-Err : goal.returns-in-Err
returns-in-Err g c = made_then c.write_to.result c.write_to.ensures (λ _ t n log gs a. reached_line _ (told_as _ t c.refused.ensures) (call_stop c.loop-command.rest.now c.in-Err.stop c.in-Err.ensures) (c.loop-command.invariant.2 n log gs a))

pub returns-in-Ok-None : goal.returns-in-Ok-None
returns-in-Ok-None g c = λ n log gs a. reached_line [] (sym (append-nil _)) (call_none c.loop-command.rest.now c.in-Ok-None.field-0-is c.in-Ok-None.ensures) (c.loop-command.invariant.2 n log gs a)

pub loop-command-preserved : goal.loop-command-preserved
loop-command-preserved g c =
    let k = call_some c.loop-command.rest.now c.in-Ok-Some.field-0-is c.in-Ok-Some.ensures in
    let l = long k.1 in
    let i = c.loop-command.invariant in
    (c.act.ensures.kept ∙ i.0, omega (arith, l, i.1), λ n log gs a. reached_act k.1 (omega (arith, l, i.1)) (acts_under i.0 (c.in_ok-act-in-Ok-Some.ensures.acts k.0)) (i.2 n log gs a))
