use Rattle.std.proofs.Common.{◌≡◌, length, Err, vec_items, rules}
use Rattle.sheet.proofs.Selections.{selected}
use Rattle.sheet.proofs.FairCopying.{fair_denied, fair_copied}
use Rattle.sheet.proofs.copy.write_fair_copy.Goals as goal

pub returns-in_err-copy_rows-clause-answer : goal.returns-in_err-copy_rows-clause-answer
returns-in_err-copy_rows-clause-answer g c xs C =
    let x = c.args.rows.now in
    let z : c.from_residual.result ≡ Err c.in_err-copy_rows.field-0.0 = search rules in
    rw z (fair_denied c.as_slice.ensures.value C (selected _ x.rows.now xs x.agrees (vec_items c.select.new.list) c.select.ensures.picks c.select.ensures.rises) (c.in_err-copy_rows.ensures xs))

pub returns-clause-answer : goal.returns-clause-answer
returns-clause-answer g c xs C =
    let x = c.args.rows.now in
    let m : c.len.result ≡ length (vec_items c.select.new.list) = search rules in
    fair_copied c.write_copy.result c.as_slice.ensures.value c.as_slice-2.ensures.value C (selected _ x.rows.now xs x.agrees (vec_items c.select.new.list) c.select.ensures.picks c.select.ensures.rises) (c.in_ok-copy_rows.ensures xs) m c.write_copy.ensures
