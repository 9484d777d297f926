use Rattle.std.proofs.Common.{ℕ, suc, ◌<◌, [], length, refl, ◌∙◌, subst, add-one, rules}
use Rattle.monomial.specs.Lists.{exponents_of}
use Rattle.reduction.specs.Table.{terms_of}
use Rattle.sheet.specs.Rows.{lead_of, flags_of, Asked}
use Rattle.reduction.proofs.Mapping.{map_kept_at, map_updated}
use Rattle.sheet.proofs.flags.refresh.Goals as goal

pub loop-i-preserved : goal.loop-i-preserved
loop-i-preserved g c =
    let rows = c.loop-i.rows in
    let i = c.loop-i.i in
    let r = c.index-rows-i.result in
    let D = g.D.Division.meaning c.args.division.now in
    let U = exponents_of c.args.list.now in
    let inside : i < length rows = search rules in
    let flag : Asked D U (suc i) c.ask_all-row.result = subst (λ (k : ℕ). Asked D U k c.ask_all-row.result) (add-one i) c.ask_all-row.ensures in (
      map_kept_at terms_of rows i r _ refl ∙ c.loop-i.invariant.0,
      map_kept_at lead_of rows i r _ refl ∙ c.loop-i.invariant.1,
      map_updated (λ j x. Asked D U (suc j) x) flags_of rows i _ [] inside flag c.loop-i.invariant.2,
    )
