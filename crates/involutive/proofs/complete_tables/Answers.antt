use Rattle.involutive.proofs.Completeness.{complete}
use Rattle.involutive.proofs.complete_tables.Goals as goal

pub returns : goal.returns
returns c = complete
