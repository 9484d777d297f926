use Rattle.replay.proofs.Acting.{made_then, acts_term_of}
use Rattle.replay.proofs.play.Replay.act.Goals as goal

pub returns-in-Term-clause-acts : goal.returns-in-Term-clause-acts
returns-in-Term-clause-acts g c = made_then c.gather.result c.gather.ensures.gathers (λ _ e p. acts_term_of c.in-Term.is e c.gather.ensures.text)
