use Rattle.std.proofs.Common.{◌≡◌, ℕ, ◌+◌, ◌<◌, List, map, length, is_ok, vec_items, vec_len, vec_capacity, ap, ◌∙◌, subst, arith, rules}
use lib.ListN.{length-map}
use Rattle.std.specs.List.{insert}
use Rattle.std.proofs.lemmas.Bool.{cond-true}
use Rattle.std.proofs.lemmas.Bool.Decides.{not_from_Decides}
use Rattle.sheet.specs.Rows.{lead_of}
use Rattle.sheet.specs.Selecting.{placed}
use Rattle.sheet.proofs.Selections.{so_far_none, so_far_more, so_far_same}
use Rattle.sheet.proofs.select.select.Goals as goal
use Rattle.sheet.proofs.select.select.Goals.{then-is_minimal, else-is_minimal}

pub loop-i-init : goal.loop-i-init
loop-i-init g c = (search rules, search rules, so_far_none (g.O.Order.meaning c.args.order.now) (map lead_of c.args.rows.now) (vec_items c.clear.new.self) c.clear.ensures.items)

pub loop-i-preserved : goal.loop-i-preserved
loop-i-preserved g c =
    let O = g.O.Order.meaning c.args.order.now in
    let Q = g.met.O.Order.laws c.args.order.now in
    let rows = c.args.rows.now in
    let U = map lead_of rows in
    let i = c.loop-i.i in
    let old = vec_items c.loop-i.list in
    let n = length-map rows lead_of in
    let h : i < length U = omega (arith, n) in
    let new = vec_items c.if-is_minimal.list in
    let I = c.loop-i.invariant.2 in
    elim c.if-is_minimal.branch [
      | then-is_minimal w ↦
          let at = w.place_of-at.result in
          let p : insert old at (i + 1) ≡ placed O U (i + 1) old = subst (λ (x : List ℕ). insert x at (i + 1) ≡ placed O U (i + 1) x) w.as_slice.ensures.value w.place_of-at.ensures.place in
          let b = vec_len c.loop-i.list in
          let r : b < vec_capacity c.loop-i.list = omega (arith, c.loop-i.invariant.0, c.loop-i.invariant.1, c.requires) in
          let t = w.insert.ensures.succeeds r in
          let l : vec_len c.if-is_minimal.list ≡ b + 1 = ap vec_len w.list-is ∙ w.insert.ensures.len ∙ cond-true _ (b + 1) b t in
          let v : vec_capacity c.if-is_minimal.list ≡ vec_capacity c.loop-i.list = ap vec_capacity w.list-is ∙ (w.insert.ensures.in_place r).1.0 in
          (omega (arith, l, c.loop-i.invariant.0), omega (arith, v, c.loop-i.invariant.1), so_far_more O Q U i old new I h at (is_ok w.insert.result) (c.is_minimal.ensures.0 w.if-is_minimal.true) p t (ap vec_items w.list-is ∙ w.insert.ensures.items))
      | else-is_minimal w ↦
          let l = ap vec_len w.list-is in
          let v = ap vec_capacity w.list-is in
          (omega (arith, l, c.loop-i.invariant.0), omega (arith, v, c.loop-i.invariant.1), so_far_same O Q U i old new I h (not_from_Decides c.is_minimal.result c.is_minimal.ensures w.if-is_minimal.false) (ap vec_items w.list-is))
    ]
