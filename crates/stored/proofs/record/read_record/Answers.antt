use Rattle.std.proofs.Common.{◌≡◌, Err, vec_items, sym, refl, subst, arith, rules, ltb-false, ltb-true}
use Rattle.polynomial.specs.Reading.{ReadsRun}
use Rattle.stored.specs.Record.{ReadsRecord, fault_of}
use Rattle.stored.proofs.Errors.{is_that_error, kept, renamed}
use Rattle.stored.proofs.Records.{no_run, open_run, other_run}
use Rattle.stored.proofs.record.read_record.Goals as goal

pub returns-in_err-terms : goal.returns-in_err-terms
returns-in_err-terms c =
    let (why, cut, told) = renamed (ReadsRun c.args.rest.bytes.now) _ _ _ c.map_err.ensures.cases c.read_run.ensures.run c.in_err-terms.was in
    let e : c.in_err-terms.field-0.0 ≡ fault_of why c.args.rest.offset = search rules in
    is_that_error (ReadsRecord c.args.rest) c.from_residual.result _ c.from_residual.ensures.1 (subst (λ f. ReadsRecord c.args.rest (Err f)) (sym e) (no_run c.args.rest why cut))

pub returns-in-empty : goal.returns-in-empty
returns-in-empty c =
    let run = kept (ReadsRun c.args.rest.bytes.now) _ _ _ c.map_err.ensures.cases c.read_run.ensures.run c.in_ok-terms.was in
    (_, refl, open_run c.args.rest.bytes.now c.in_ok-terms.end.now (vec_items c.in_ok-terms.terms) run (omega (arith, ltb-true)))

pub returns-in-len1-up : goal.returns-in-len1-up
returns-in-len1-up c =
    let run = kept (ReadsRun c.args.rest.bytes.now) _ _ _ c.map_err.ensures.cases c.read_run.ensures.run c.in_ok-terms.was in
    (_, refl, other_run c.args.rest.bytes.now c.in_ok-terms.end.now (vec_items c.in_ok-terms.terms) run (omega (arith, ltb-false)) (omega arith))
