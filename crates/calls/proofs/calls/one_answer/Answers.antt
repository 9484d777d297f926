use Rattle.involutive.proofs.OneAnswer as Once
use Rattle.calls.proofs.calls.one_answer.Goals as goal

pub returns : goal.returns
returns g c = Once.one_answer (g.C.Calls.setting c.args.sheet.now) (g.met.C.Calls.lawful c.args.sheet.now) (g.C.Calls.state c.args.sheet.now) (g.met.C.Calls.sound c.args.sheet.now)
