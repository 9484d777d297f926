use Rattle.std.proofs.Common.{◌≡◌, suc, ◌+◌, ◌-◌, ◌<◌, ◌≤◌, [], codes, ap, arith, rules}
use Rattle.monomial.specs.Lists.{exponents_of}
use Rattle.stored.specs.Text.{is_multiplicative, variables_text}
use Rattle.stored.proofs.Texts.{variable_skipped, variable_written, variables_written}
use Rattle.stored.proofs.Writing.{nothing_yet}
use Rattle.stored.proofs.text.VariablesDisplay.fmt.Goals as goal
use Rattle.stored.proofs.text.VariablesDisplay.fmt.Goals.{then-is_multiplicative+in_ok-write, else-is_multiplicative}

pub loop-number-init : goal.loop-number-init
loop-number-init g c = record {
  utf8 = search rules;
  left = λ p.
      let table = c.args.self.now.table.now in
      let test = is_multiplicative (g.D.Division.meaning table.division.now) (exponents_of table.leaders.now) c.args.self.now.row in
      let n = table.operands.variables in
      let e : suc n - 1 ≡ n = omega arith in
      nothing_yet p (ap (variables_text test 1 []) e);
}

pub loop-number-preserved : goal.loop-number-preserved
loop-number-preserved g c = record {
  utf8 = elim c.if-is_multiplicative.branch [ then-is_multiplicative+in_ok-write w ↦ search rules | else-is_multiplicative w ↦ search rules ];
  left = λ p.
      let table = c.args.self.now.table.now in
      let test = is_multiplicative (g.D.Division.meaning table.division.now) (exponents_of table.leaders.now) c.args.self.now.row in
      let n = table.operands.variables in
      let k = c.loop-number.number-counter in
      let mark = c.loop-number.mark.now in
      let h : k ≤ n = omega (arith, c.from-number-end.ensures) in
      let left = c.loop-number.invariant.left p in
      let plain = left.written.plain in
      elim c.if-is_multiplicative.branch [
        | then-is_multiplicative+in_ok-write w ↦ rw (w.mark-is, w.f-is) (variable_written test n k mark h w.if-is_multiplicative.ensures left (search rules))
        | else-is_multiplicative w ↦ rw (w.mark-is, w.f-is) (variable_skipped test n k mark h w.if-is_multiplicative.ensures left)
      ];
}

pub returns-after-is_multiplicative-clause-writes : goal.returns-after-is_multiplicative-clause-writes
returns-after-is_multiplicative-clause-writes g c = λ p ok.
    let table = c.args.self.now.table.now in
    let test = is_multiplicative (g.D.Division.meaning table.division.now) (exponents_of table.leaders.now) c.args.self.now.row in
    let n = table.operands.variables in
    let k = c.loop-number.number-counter in
    let mark = c.loop-number.mark.now in
    let h : k ≤ n = omega (arith, c.from-number-end.ensures) in
    let end : n < k + 1 = omega (arith, c.from-number-end.ensures) in
    let left = c.loop-number.invariant.left p in
    let plain = left.written.plain in
    elim c.if-is_multiplicative.branch [
      | then-is_multiplicative+in_ok-write w ↦ rw w.f-is (variables_written test n (k + 1) (codes ", ") end (variable_written test n k mark h w.if-is_multiplicative.ensures left (search rules)))
      | else-is_multiplicative w ↦ rw w.f-is (variables_written test n (k + 1) mark end (variable_skipped test n k mark h w.if-is_multiplicative.ensures left))
    ]
