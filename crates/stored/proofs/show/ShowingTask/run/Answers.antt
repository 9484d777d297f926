use Rattle.std.proofs.Common.{◌++◌, map, length, vec_items, ◌∙◌, ap, ap₂}
use Rattle.monomial.specs.Lists.{exponents_of}
use Rattle.stored.specs.Leader.{leader_of}
use Rattle.stored.specs.Rows.{polys}
use Rattle.stored.specs.Text.{setting_text, rows_text}
use Rattle.stored.proofs.Showing.{table_told}
use Rattle.stored.proofs.show.ShowingTask.run.Goals as goal

pub returns : goal.returns
returns g c =
    let D = g.D.Division.meaning c.args.division in
    let s = c.args.self.operands in
    let rs = vec_items c.in_ok-rows.rows in (
      polys rs,
      c.in_ok-rows.ensures,
      table_told D s.modulus s.variables s.order s.division rs (vec_items c.in_ok-leaders.leaders) _
          (c.in_ok-to_string.ensures.ok ∙ ap₂ (λ x y. setting_text s.modulus s.variables s.order s.division (length x) ++ rows_text D (exponents_of y) s.variables 1 (polys x)) c.deref-3.ensures.value c.deref-2.ensures.value)
          (c.in_ok-leaders.ensures ∙ ap (λ x. map (λ r. leader_of (vec_items r.terms)) x) c.deref.ensures.value),
    )
