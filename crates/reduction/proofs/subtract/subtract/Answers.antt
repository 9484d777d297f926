use Rattle.std.proofs.Common.{◌≡◌, Ok, Err, Result, vec_items, sym, ap, subst}
use Rattle.std.specs.Result.{IsErrAnd}
use Rattle.involutive.specs.Value.{scaled}
use Rattle.reduction.specs.declared.refusal.Reason.{Reason}
use Rattle.reduction.specs.declared.refusal.Reason.TheVariants.{Long}
use Rattle.reduction.specs.Subtraction.{Subtracted}
use Rattle.polynomial.specs.Polynomial.{exponents}
use Rattle.reduction.specs.Merging.{code_negative}
use Rattle.reduction.proofs.Multiples.{fits_yes, fits_no}
use Rattle.reduction.proofs.Subtracting.{differs}
use Rattle.reduction.proofs.subtract.subtract.Goals as goal

too_long : (r : Result (Unit {0}) Reason) → IsErrAnd r (λ e. e ≡ Long) → r ≡ Err Long
too_long (Ok u) h = absurd h
too_long (Err e) h = ap Err h

pub returns-then-not-fits : goal.returns-then-not-fits
returns-then-not-fits g c n v w p b i = fits_no (g.F.Field.meaning c.args.ring.now.field) c.args.factor.now.coefficient (exponents c.args.factor.now) c.args.row.now (sym c.if-not-fits.ensures)

pub returns-in_err-add_multiple : goal.returns-in_err-add_multiple
returns-in_err-add_multiple g c n v w p b i =
    let F = g.F.Field.meaning c.args.ring.now.field in
    let O = g.O.Order.meaning c.args.ring.now.order in
    let small = sym c.if-not-fits.ensures in
    let negative : c.unwrap_or.result ≡ code_negative F c.args.factor.now.coefficient = cc (c.unwrap_or.ensures, c.neg.ensures) in
    let s = c.in_err-add_multiple.ensures in
    subst (λ r. Subtracted F O n c.args.room.terms c.args.terms.now (scaled F c.args.factor.now.coefficient (exponents c.args.factor.now) c.args.row.now) r (vec_items c.add_multiple.new.out.terms)) (sym (too_long c.from_residual.result c.from_residual.ensures.1)) (
      fits_yes F c.args.factor.now.coefficient (exponents c.args.factor.now) c.args.row.now small,
      (s.0, differs F (g.met.F.Field.laws c.args.ring.now.field) O (g.met.O.Order.laws c.args.ring.now.order) n _ _ _ _ v w p b i _ negative small s.1, s.2),
    )

pub returns : goal.returns
returns g c n v w p b i =
    let F = g.F.Field.meaning c.args.ring.now.field in
    let small = sym c.if-not-fits.ensures in
    let negative : c.unwrap_or.result ≡ code_negative F c.args.factor.now.coefficient = cc (c.unwrap_or.ensures, c.neg.ensures) in
    let s = c.in_ok-add_multiple.ensures in (
      fits_yes F c.args.factor.now.coefficient (exponents c.args.factor.now) c.args.row.now small,
      differs F (g.met.F.Field.laws c.args.ring.now.field) (g.O.Order.meaning c.args.ring.now.order) (g.met.O.Order.laws c.args.ring.now.order) n _ _ _ _ v w p b i _ negative small s.0,
      s.1,
    )
