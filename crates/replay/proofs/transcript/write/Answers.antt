use Rattle.std.proofs.Common.{◌∙◌}
use Rattle.replay.proofs.Acting.{made_then}
use Rattle.replay.proofs.Openings.{begun, other_first, nothing_read, none_carried_out}
use Rattle.replay.proofs.Playing.{read_none}
use Rattle.replay.proofs.transcript.write.Goals as goal

pub returns-in-Sheet : goal.returns-in-Sheet
returns-in-Sheet c = made_then c.start.result c.start.ensures (λ text a. begun c.args.input.now c.in-Ok-Some.field-0-is c.in-Ok-Some.ensures c.in-Sheet.is a)

pub returns-in-Ok-None : goal.returns-in-Ok-None
returns-in-Ok-None c = nothing_read c.args.input.now (read_none c.args.input.now c.in-Ok-None.field-0-is c.in-Ok-None.ensures) c.new.ensures.items

pub returns-in_default : goal.returns-in_default
returns-in_default c = made_then c.text_of.result c.text_of.ensures (λ _ t. other_first c.args.input.now c.in-Ok-Some.field-0-is c.in-Ok-Some.ensures c.in_default.not-Sheet c.byte.ensures (t ∙ c.refused.ensures))

pub returns-in-Err : goal.returns-in-Err
returns-in-Err c = made_then c.text_of-in-Err.result c.text_of-in-Err.ensures (λ _ t. none_carried_out c.args.input.now c.in-Err.fault c.in-Err.ensures c.into.ensures (t ∙ c.refused-in-Err.ensures))
