-- The main theorem, put together.
use Rattle.involutive.specs.Complete.{CompleteTables}
use Rattle.involutive.proofs.KeptIdeal
use Rattle.involutive.proofs.Remainders
use Rattle.involutive.proofs.EqualCopies

pub complete : CompleteTables
complete S W = record { ideal = KeptIdeal.keeps_ideal S W; decide = Remainders.decide S W; add = Remainders.add S W; multiply = Remainders.multiply S W; copies = EqualCopies.copies_decide S W }
