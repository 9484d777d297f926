use Rattle.std.proofs.Common.{◌≡◌, [], length, ◌∙◌, arith, rules}
use Rattle.polynomial.specs.Polynomial.{term}
use Rattle.polynomial.proofs.Codec.{write_more}
use Rattle.polynomial.proofs.bytes.write_terms.Goals as goal

pub loop-i-preserved : goal.loop-i-preserved
loop-i-preserved c =
    let w : length c.copy_from_slice.new.self ≡ 9 = search rules in
    write_more c.args.terms.now c.args.out.now c.loop-i.out c.loop-i.i c.copy_from_slice.new.self (term 0 []) (omega arith) (omega arith) (omega arith)
    c.loop-i.invariant.0 c.loop-i.invariant.1 (c.copy_from_slice.ensures.after ∙ c.term_bytes.ensures) w
