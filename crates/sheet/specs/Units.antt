-- Whether a row leads with the monomial 1. Only contracts of private functions use these words.
use Rattle.std.specs.Prelude.{Bool, List}
use Rattle.std.specs.List.{list_any}
use Rattle.monomial.specs.Monomial.{same, one}
use Rattle.reduction.specs.declared.table.Row.{Row}
use Rattle.sheet.specs.Rows.{lead_of}

abbrev pub has_unit : List Row → Bool
has_unit rows = list_any (λ r. same (lead_of r) one) rows
