-- What the operands of a sheet command do not name, in words.
use Rattle.std.specs.Prelude.{ℕ, List, codes}
use Rattle.choice.specs.declared.unnamed.Unnamed.{Unnamed}
use Rattle.choice.specs.declared.unnamed.Unnamed.TheVariants.{Field, Variables, Order, Division}

abbrev pub unnamed_text : Unnamed → List ℕ
unnamed_text Field = codes "no such field"
unnamed_text Variables = codes "not 1 to 6 variables"
unnamed_text Order = codes "no such order"
unnamed_text Division = codes "no such division"
