use Rattle.std.proofs.Common.{unwrap_or, sym, ap, ◌∙◌, subst}
use Rattle.monomial.specs.Monomial.{one}
use Rattle.polynomial.specs.Check.{Fits}
use Rattle.involutive.specs.Value.{scaled}
use Rattle.sheet.proofs.Appending.{inverse_is, too_large, multiplied}
use Rattle.sheet.proofs.append.make_row.Goals as goal

pub returns-then-is_err-clause-terms : goal.returns-then-is_err-clause-terms
returns-then-is_err-clause-terms g c n o p f =
    let F = g.F.Field.meaning c.args.field.now in
    let i = inverse_is (g.met.F.Field.laws c.args.field.now) c.args.g.now n c.unwrap_or.result c.requires.0 o p (c.unwrap_or.ensures ∙ ap (λ x. unwrap_or x 0) c.inv.ensures) in
    too_large _ c.args.g.now (scaled F c.unwrap_or.result one c.args.g.now) c.scale.result (sym c.is_err.ensures.value ∙ c.if-is_err.true) c.requires.1 (c.scale.ensures.value n o i.1) (subst (λ x. Fits (scaled F x one c.args.g.now)) (sym i.0) f)

pub returns-clause-terms : goal.returns-clause-terms
returns-clause-terms g c n o p =
    let F = g.F.Field.meaning c.args.field.now in
    let i = inverse_is (g.met.F.Field.laws c.args.field.now) c.args.g.now n c.unwrap_or.result c.requires.0 o p (c.unwrap_or.ensures ∙ ap (λ x. unwrap_or x 0) c.inv.ensures) in
    (multiplied _ c.args.g.now (scaled F c.unwrap_or.result one c.args.g.now) c.scale.result (sym c.is_err.ensures.value ∙ c.if-is_err.false) (c.scale.ensures.value n o i.1)).1 ∙ ap (λ x. scaled F x one c.args.g.now) i.0
