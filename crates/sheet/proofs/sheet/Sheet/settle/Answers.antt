use Rattle.std.proofs.Common.{◌≡◌, ℕ, ◌+◌, ◌≤◌, List, [], ◌∷◌, ◌++◌, map, length, Err, vec_items, vec_len, sym, ap, ◌∙◌, subst, arith, rules, length-append}
use Rattle.std.proofs.Math.Logic.{∥∥₁_map}
use lib.ListN.{length-map}
use Rattle.monomial.specs.Monomial.{Wide}
use Rattle.polynomial.specs.Polynomial.{leading}
use Rattle.sheet.specs.Queueing.{Queued}
use Rattle.sheet.specs.Rows.{lead_of}
use Rattle.sheet.specs.Marks.{rows_of}
use Rattle.sheet.proofs.Whole.{whole}
use Rattle.sheet.proofs.Settlings.{rest_of, settle_full, settle_appends, settle_stands, settle_leads, settles_sound}
use Rattle.sheet.proofs.sheet.Sheet.settle.Goals as goal

pub returns-in_err-append-clause-settles : goal.returns-in_err-append-clause-settles
returns-in_err-append-clause-settles g c =
    let x = c.args.self.now in
    let W = whole (g.met.F.Field.laws x.ring.field) (g.met.O.Order.laws x.ring.order) (g.met.D.Division.laws x.division) x.some x.few (vec_items x.table.rows) x.agrees in
    let R = rest_of W c.requires c.as_slice-left.ensures.value c.if-is_empty.ensures in
    let k : vec_len x.table.rows ≡ length (vec_items x.table.rows) = search rules in
    let m : vec_len x.table.rows ≤ 32 = search rules in
    let d = c.in_err-append.field-0.0 in
    let q = c.in_err-append.ensures in
    let z : c.from_residual.result ≡ Err d = search rules in
    rw (z, ← c.as_slice-left.ensures.value) (settle_full (rows_of x.marks) (vec_len x.table.rows) k d R m q.kept (q.rows x.ring.variables))

pub returns-clause-settles : goal.returns-clause-settles
returns-clause-settles g c =
    let x = c.args.self.now in
    let W = whole (g.met.F.Field.laws x.ring.field) (g.met.O.Order.laws x.ring.order) (g.met.D.Division.laws x.division) x.some x.few (vec_items x.table.rows) x.agrees in
    let R = rest_of W c.requires c.as_slice-left.ensures.value c.if-is_empty.ensures in
    let k : vec_len x.table.rows ≡ length (vec_items x.table.rows) = search rules in
    rw (← c.as_slice-left.ensures.value) (settle_appends (rows_of x.marks) (vec_len x.table.rows) k (rows_of c.none-self.result) R c.none-self.ensures (c.in_ok-append.ensures.rows x.ring.variables))

pub invariant_of-self-3-clause-agrees : goal.invariant_of-self-3-clause-agrees
invariant_of-self-3-clause-agrees g c =
    let x = c.args.self.now in
    let W = whole (g.met.F.Field.laws x.ring.field) (g.met.O.Order.laws x.ring.order) (g.met.D.Division.laws x.division) x.some x.few (vec_items x.table.rows) x.agrees in
    let R = rest_of W c.requires c.as_slice-left.ensures.value c.if-is_empty.ensures in
    settle_stands (vec_len x.table.rows) R (c.in_ok-append.ensures.rows x.ring.variables)

pub invariant_of-self-3-clause-queued : goal.invariant_of-self-3-clause-queued
invariant_of-self-3-clause-queued g c =
    let x = c.args.self.now in
    let O = g.O.Order.meaning x.ring.order in
    let n = x.ring.variables in
    let rows = vec_items x.table.rows in
    let picks = vec_items c.push_row.new.self.picks in
    let W = whole (g.met.F.Field.laws x.ring.field) (g.met.O.Order.laws x.ring.order) (g.met.D.Division.laws x.division) x.some x.few rows x.agrees in
    let R = rest_of W c.requires c.as_slice-left.ensures.value c.if-is_empty.ensures in
    let L = settle_leads (vec_len x.table.rows) R (c.in_ok-append.ensures.rows n) in
    let lead = c.leader-lead.result.exponents in
    let k : vec_len x.table.rows ≡ length rows = search rules in
    let new = vec_items c.append.new.self.rows in
    let l : c.len-row.result ≡ length (map lead_of new) = c.len-row.ensures ∙ search rules ∙ sym (length-map new lead_of) in
    let m : length (map lead_of rows) + 1 ≡ c.len-row.result = sym (l ∙ ap length L.1 ∙ length-append (map lead_of rows) (leading (c.as_slice-left.result.now) ∷ [])) in
    let q = c.push_row.ensures.queued (map lead_of rows) x.queued m (omega (arith, m, k, L.2, length-map rows lead_of)) (subst Wide (sym c.leader-lead.ensures) L.0) in
    subst (λ (u : List (List ℕ)). Queued O n u picks) (ap (λ u. map lead_of rows ++ (u ∷ [])) c.leader-lead.ensures ∙ sym L.1) q

pub invariant_of-self-3-clause-passed : goal.invariant_of-self-3-clause-passed
invariant_of-self-3-clause-passed g c = λ j h. absurd (let z = c.push_row.ensures.next in omega (arith, z, h))

pub invariant_of-self-3-clause-sound : goal.invariant_of-self-3-clause-sound
invariant_of-self-3-clause-sound g c =
    let x = c.args.self.now in
    let W = whole (g.met.F.Field.laws x.ring.field) (g.met.O.Order.laws x.ring.order) (g.met.D.Division.laws x.division) x.some x.few (vec_items x.table.rows) x.agrees in
    let R = rest_of W c.requires c.as_slice-left.ensures.value c.if-is_empty.ensures in
    let k : vec_len x.table.rows ≡ length (vec_items x.table.rows) = search rules in
    ∥∥₁_map x.sound (settles_sound W.lawful R.left (settle_appends (rows_of x.marks) (vec_len x.table.rows) k (rows_of c.none-self.result) R c.none-self.ensures (c.in_ok-append.ensures.rows x.ring.variables)))
