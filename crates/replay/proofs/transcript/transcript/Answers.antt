use Rattle.std.proofs.Common.{take, ap, subst, ◌∙◌}
use Rattle.std.proofs.lemmas.List.{take_min}
use Rattle.involutive.proofs.Completeness.{complete}
use Rattle.involutive.proofs.Examples.{not_empty}
use Rattle.involutive.proofs.OneAnswer.{one_answer, one_state}
use Rattle.involutive.proofs.Soundness.{soundness_kept}
use Rattle.involutive.proofs.Verdicts.{verdict}
use Rattle.involutive.proofs.WorkedFacts.{all_hold}
use Rattle.replay.specs.Replay.{Transcript, most_input}
use Rattle.replay.proofs.Acting.{made_then}
use Rattle.replay.proofs.Onces.{transcript_one}
use Rattle.replay.proofs.transcript.transcript.Goals as goal

pub returns : goal.returns
returns c = record {
  transcript = made_then c.write.result c.write.ensures (λ text t. subst (λ bs. Transcript bs text.items) (ap (λ n. take n c.args.input.now) c.min.ensures ∙ take_min most_input c.args.input.now) t);
  one = λ bs text other p q. transcript_one p q;
  complete = complete;
  verdict = verdict;
  sound = soundness_kept;
  answers = one_answer;
  states = one_state;
  facts = all_hold;
  examples = not_empty;
}
