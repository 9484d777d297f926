use Rattle.std.proofs.Common.{◌≡◌, ◌<◌, List, map, length, vec_items, vec_len, sym, ap, ◌∙◌, subst, rules}
use Rattle.std.proofs.lemmas.List.{take_at}
use Rattle.monomial.specs.Lists.{exponents_of}
use Rattle.monomial.specs.Monomial.{one}
use Rattle.polynomial.specs.Polynomial.{leading, leading_coefficient}
use Rattle.involutive.specs.Value.{scaled}
use Rattle.reduction.specs.declared.table.Row.{Row}
use Rattle.sheet.specs.Rows.{lead_of, Refreshed, Appended}
use Rattle.sheet.proofs.Appending.{appended}
use Rattle.sheet.proofs.table.Table.append.Goals as goal

pub returns-in-Ok-clause-rows : goal.returns-in-Ok-clause-rows
returns-in-Ok-clause-rows g c n o p f =
    let F = g.F.Field.meaning c.args.field.now in
    let h = c.args.g.now in
    let D = g.D.Division.meaning c.args.division.now in
    let old = vec_items c.args.self.now.rows in
    let pushed = vec_items c.push_reserved-in-Ok.new.self in
    let new = c.refresh.new.rows in
    let U = exponents_of c.as_slice.result.now in
    let u : U ≡ map lead_of pushed = ap exponents_of c.as_slice.ensures.value ∙ c.list_leaders.ensures.list in
    let R : Refreshed D U pushed new = subst (λ (x : List Row). Refreshed D U x new) (c.as_mut_slice.ensures.value ∙ ap vec_items c.list_leaders.ensures.kept) c.refresh.ensures in
    let l : length new ≡ c.list_leaders.new.self.rows.len = search rules in
    let k : vec_len c.args.self.now.rows < 32 = search rules in
    (k, subst (λ (x : List Row). Appended D (scaled F (F.inv (leading_coefficient h)) one h) (leading h) old x) (sym (take_at new _ c.list_leaders.new.self.rows.len l)) (appended old pushed new c.in-Ok.row c.push_reserved-in-Ok.ensures.items (c.in-Ok.ensures.terms n o p) c.in-Ok.ensures.lead u R))
