use Rattle.std.proofs.Common.{◌+◌, [], ◌∷◌, ◌++◌, take, drop, vec_items, ap, ◌∙◌, add-one, arith}
use Rattle.std.proofs.lemmas.List.{take_rest}
use Rattle.polynomial.specs.Polynomial.{term}
use Rattle.reduction.proofs.Meeting.{met_alone, met_gone, met_both}
use Rattle.reduction.proofs.AddingUp.{failed, behind, too_long_above, too_long_by_one}
use Rattle.reduction.proofs.merge.meet.Goals as goal
use Rattle.reduction.proofs.merge.meet.Goals.{in-Some+in_ok-push-in-Ok, in_default}

pub returns-in_err-extend-in-Ok : goal.returns-in_err-extend-in-Ok
returns-in_err-extend-in-Ok g c =
    let F = g.F.Field.meaning c.args.ring.now.field in
    let O = g.O.Order.meaning c.args.ring.now.order in
    let place = c.in-Ok.ensures in
    failed _ c.from_residual.result c.from_residual.ensures.0 (too_long_above F O c.args.terms.now c.args.other.now c.in-Ok.at place.1 (omega (arith, place.0)) _ _ c.in_err-extend-in-Ok.ensures.0)

pub returns-in_err-extend-in-Err : goal.returns-in_err-extend-in-Err
returns-in_err-extend-in-Err g c =
    let F = g.F.Field.meaning c.args.ring.now.field in
    let O = g.O.Order.meaning c.args.ring.now.order in
    let place = c.in-Err.ensures in
    failed _ c.from_residual-in_err-extend-in-Err.result c.from_residual-in_err-extend-in-Err.ensures.0 (too_long_above F O c.args.terms.now c.args.other.now c.in-Err.at place.1 place.0 _ _ c.in_err-extend-in-Err.ensures.0)

pub returns-in_err-push-in-Err : goal.returns-in_err-push-in-Err
returns-in_err-push-in-Err g c =
    let F = g.F.Field.meaning c.args.ring.now.field in
    let O = g.O.Order.meaning c.args.ring.now.order in
    let place = c.in-Err.ensures in
    failed _ c.from_residual-in_err-push-in-Err.result c.from_residual-in_err-push-in-Err.ensures.0
    (too_long_by_one F O _ _ (met_alone F O c.args.other.now c.args.terms.now c.in-Err.at place.1 place.0 place.2) _ _ _ c.in_ok-extend-in-Err.ensures.1 c.in_err-push-in-Err.ensures.0)

pub returns-in_err-push-in-Ok : goal.returns-in_err-push-in-Ok
returns-in_err-push-in-Ok g c =
    let F = g.F.Field.meaning c.args.ring.now.field in
    let O = g.O.Order.meaning c.args.ring.now.order in
    let place = c.in-Ok.ensures in
    failed _ c.from_residual-in_err-push-in-Ok.result c.from_residual-in_err-push-in-Ok.ensures.0
    (too_long_by_one F O _ _ (met_both F O c.args.other.now c.args.terms.now c.in-Ok.at place.1 place.0 place.2 (term 0 []) c.in-Some.ensures.0) _ _ _ c.in_ok-extend-in-Ok.ensures.1 c.in_err-push-in-Ok.ensures.0)

pub returns-after-join : goal.returns-after-join
returns-after-join g c =
    let F = g.F.Field.meaning c.args.ring.now.field in
    let O = g.O.Order.meaning c.args.ring.now.order in
    let h = c.args.terms.now in
    let s = c.args.other.now in
    let k = c.in-Ok.at in
    let place = c.in-Ok.ensures in
    let e = c.in_ok-extend-in-Ok.ensures in
    let rest = take_rest h (k + 1) ∙ ap (λ i. drop i h) (add-one k) in
    elim c.match-join.branch [
      | in-Some+in_ok-push-in-Ok w ↦
          let j = w.in-Some.ensures in (
            _,
            ap (λ b. vec_items b.terms) w.out-is ∙ behind _ (take k h) _ _ _ e.1 (w.in_ok-push-in-Ok.ensures.1 ∙ ap (λ x. vec_items c.extend.new.self.terms ++ x ∷ []) j.1),
            rw rest (met_both F O s h k place.1 place.0 place.2 (term 0 []) j.0),
          )
      | in_default w ↦ (take k h, ap (λ b. vec_items b.terms) w.out-is ∙ e.1, rw rest (met_gone F O s h k place.1 place.0 place.2 (term 0 []) w.in_default.ensures))
    ]

pub returns-in_ok-push-in-Err : goal.returns-in_ok-push-in-Err
returns-in_ok-push-in-Err g c =
    let F = g.F.Field.meaning c.args.ring.now.field in
    let O = g.O.Order.meaning c.args.ring.now.order in
    let h = c.args.terms.now in
    let s = c.args.other.now in
    let k = c.in-Err.at in
    let place = c.in-Err.ensures in
    (_, behind _ (take k h) (s ∷ []) _ _ c.in_ok-extend-in-Err.ensures.1 c.in_ok-push-in-Err.ensures.1, rw (take_rest h k) (met_alone F O s h k place.1 place.0 place.2))
