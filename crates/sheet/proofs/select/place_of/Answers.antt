use Rattle.involutive.proofs.Lists.{entry_member}
use Rattle.sheet.proofs.select.place_of.Goals as goal

pub compare_leads-requires : goal.compare_leads-requires
compare_leads-requires g c = (c.requires.0 _ (entry_member 0 c.args.list.now c.loop-i.i c.loop-i-test.true), c.requires.1)
