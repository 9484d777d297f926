use Rattle.std.proofs.Common.{◌≡◌, ◌-◌, ◌++◌, length, vec_items, Err, sym, ◌∙◌, arith, rules}
use Rattle.monomial.specs.Monomial.{Wide}
use Rattle.polynomial.specs.Polynomial.{exponents}
use Rattle.polynomial.specs.Bytes.{term_bytes}
use Rattle.polynomial.specs.declared.bytes.NoRun.TheVariants.{Cut as CutAt}
use Rattle.polynomial.specs.Reading.{IsCut, StartsNoTerm}
use Rattle.polynomial.proofs.Codec.{run_more, run_once, run_within, reads_back}
use Rattle.polynomial.proofs.bytes.read_run.Goals as goal

pub returns-in_err-term : goal.returns-in_err-term
returns-in_err-term c =
    let bytes = c.args.input.now in
    let left = c.loop-terms.rest.now in
    let f = vec_items c.loop-terms.terms in
    let why = c.in_err-term.field-0.0 in
    let at : why ≡ CutAt (length bytes - length left) = search rules in
    let answer : c.from_residual.result ≡ Err why = search rules in
    let h : IsCut bytes (length bytes - length left) = record {
      terms = f;
      wide = c.loop-terms.invariant.0;
      rest = left;
      written = c.loop-terms.invariant.1;
      place = omega (arith, run_within bytes left f c.loop-terms.invariant.1);
      ends = search rules;
    } in
    rw (answer, at) (record { run = h; back = λ g rest k. reads_back bytes rest g (Err (CutAt (length bytes - length left))) h k })

pub loop-terms-preserved : goal.loop-terms-preserved
loop-terms-preserved c =
    let here : Wide (exponents c.in-Some.term) × (c.loop-terms.rest.now ≡ term_bytes c.in-Some.term ++ c.in-Some.behind.now) = search rules in
    run_more c.args.input.now c.loop-terms.rest.now c.in-Some.behind.now (vec_items c.loop-terms.terms) (vec_items c.push.new.self) c.in-Some.term c.loop-terms.invariant here (search rules)

pub returns-clause-back : goal.returns-clause-back
returns-clause-back c =
    let ends : StartsNoTerm c.loop-terms.rest.now = search rules in
    λ f rest k. run_once c.loop-terms.rest.now rest k.ends (vec_items c.loop-terms.terms) f c.loop-terms.invariant.0 k.wide ends (sym c.loop-terms.invariant.1 ∙ k.written)
