use Rattle.std.proofs.Common.{◌≡◌, Err, arith, rules}
use Rattle.involutive.proofs.Lists.{entry_member}
use Rattle.sheet.proofs.FairCopying.{progress_more, progress_denied, progress_all}
use Rattle.sheet.proofs.copy.copy_rows.Goals as goal

pub copy_row-requires-clause-within : goal.copy_row-requires-clause-within
copy_row-requires-clause-within g c = c.requires.1 _ (entry_member 0 c.args.list.now c.loop-k.k-index c.loop-k-test.true)

pub returns-in_err-copy_row : goal.returns-in_err-copy_row
returns-in_err-copy_row g c xs =
    let z : c.from_residual.result ≡ Err c.in_err-copy_row.field-0.0 = search rules in
    rw z (progress_denied c.loop-k-test.true (c.loop-k.invariant.1 xs) c.in_err-copy_row.ensures.copy)

pub loop-k-preserved : goal.loop-k-preserved
loop-k-preserved g c = (
  omega (arith, c.loop-k.invariant.0, c.copy_row.ensures.len),
  λ xs. progress_more c.loop-k-test.true (c.loop-k.invariant.1 xs) c.in_ok-copy_row.ensures.copy,
)

pub returns : goal.returns
returns g c xs = progress_all (omega arith) (c.loop-k.invariant.1 xs)
