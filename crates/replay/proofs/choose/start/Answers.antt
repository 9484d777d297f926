use Rattle.std.proofs.Common.{Some, IfOk, sym, ap, subst, ◌∙◌}
use Rattle.monomial.specs.Monomial.{width}
use Rattle.monomial.specs.Division.{Within}
use Rattle.field.specs.Kinds.{field_of}
use Rattle.choice.specs.declared.operands.Operands.{Operands}
use Rattle.replay.specs.Replay.{Starts, with_division, with_field}
use Rattle.replay.proofs.Acting.{made_then}
use Rattle.replay.proofs.Openings.{denied}
use Rattle.replay.proofs.Unnamings.{not_named}
use Rattle.replay.proofs.choose.start.Goals as goal

pub returns-in-Err : goal.returns-in-Err
returns-in-Err c =
    let s = c.new.result in
    let told = ap (λ (o : Operands). with_field (field_of o.kind o.modulus) o.variables o.order o.division) c.new.ensures in
    let named = sym told ∙ not_named (λ F O D n done. Within n width → IfOk done (λ text. Starts c.args.rest.now (with_division F n O (Some D)) text.items)) s.variables (field_of s.kind s.modulus) s.order s.division c.in-Err.unnamed c.in-Err.ensures in
    made_then c.text_of.result c.text_of.ensures (λ text t. subst (λ m. Starts c.args.rest.now m text.items) (sym named) (denied c.args.rest.now (t ∙ c.not_made.ensures)))
