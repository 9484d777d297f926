use Rattle.std.proofs.Common.{◌≡◌, subst, arith, rules}
use Rattle.monomial.specs.Monomial.{Wide, Bounded, times}
use Rattle.monomial.specs.Places.{at_times, not_bounded, bounded_from_places, product_from_places}
use Rattle.monomial.proofs.Monomial.product.Goals as goal

pub returns-in_err-exponents : goal.returns-in_err-exponents
returns-in_err-exponents c =
    let a = c.args.self.now.exponents in
    let b = c.args.other.now.exponents in
    let wa : Wide a = search rules in
    let wb : Wide b = search rules in
    rw c.from_residual.ensures
    (not_bounded 255 (times a b) c.loop-i.i (omega (arith, at_times a b (omega arith) c.loop-i.i, c.in_err-exponents.ensures)))

pub returns : goal.returns
returns c =
    let a = c.args.self.now.exponents in
    let b = c.args.other.now.exponents in
    let p = c.loop-i.exponents in
    let wa : Wide a = search rules in
    let wb : Wide b = search rules in
    let e : p ≡ times a b = product_from_places a b p wa wb c.loop-i.invariant.0 (λ h l. c.loop-i.invariant.1 h (omega arith)) in
    (e, subst (Bounded 255) e (bounded_from_places 255 p c.loop-i.invariant.0 (λ h l. omega (arith, c.loop-i.invariant.1 h (omega arith), c.loop-i.invariant.2 h (omega arith)))))
