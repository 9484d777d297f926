use Rattle.sheet.proofs.Logging.{log_add}
use Rattle.sheet.proofs.six.SheetCalls.add.Goals as goal

pub returns-clause-logged : goal.returns-clause-logged
returns-clause-logged g c = log_add c.add.result c.add.ensures.adds
