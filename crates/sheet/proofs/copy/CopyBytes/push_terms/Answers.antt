use Rattle.std.proofs.Common.{◌≡◌, ◌+◌, ◌≤◌, [], length, is_ok, vec_items, vec_len, vec_capacity, ◌∙◌, arith, rules}
use Rattle.std.proofs.lemmas.Bool.{cond-true}
use Rattle.polynomial.specs.Polynomial.{term}
use Rattle.sheet.proofs.FairCopying.{push_more}
use Rattle.sheet.proofs.copy.CopyBytes.push_terms.Goals as goal

pub loop-term-preserved : goal.loop-term-preserved
loop-term-preserved c =
    let w : length c.term_bytes.result ≡ 9 = search rules in
    let r : vec_len c.loop-term.self.written + length c.term_bytes.result ≤ vec_capacity c.loop-term.self.written = omega (arith, w, c.loop-term.invariant.0, c.loop-term.invariant.1, c.loop-term-test.true) in
    let t = c.extend_from_slice.ensures.succeeds r in
    let l = c.extend_from_slice.ensures.len ∙ cond-true _ (vec_len c.loop-term.self.written + length c.term_bytes.result) (vec_len c.loop-term.self.written) t in (
      omega (arith, w, l, c.loop-term.invariant.0),
      omega (arith, c.extend_from_slice.ensures.capacity, c.loop-term.invariant.1),
      push_more c.args.terms.now c.loop-term.term-index (term 0 []) (vec_items c.args.self.now.written) (vec_items c.loop-term.self.written) (vec_items c.extend_from_slice.new.self) c.term_bytes.result (is_ok c.extend_from_slice.result) c.loop-term-test.true c.loop-term.invariant.2 c.term_bytes.ensures t c.extend_from_slice.ensures.items,
    )
