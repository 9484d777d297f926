use Rattle.std.proofs.Common.{◌≡◌, Err, take, vec_items, sym, ap, ◌∙◌, rules}
use borrow.Author.Tests.{tests}
use Rattle.calls.specs.Told.{told}
use Rattle.involutive.specs.Reduction.{row}
use Rattle.reduction.specs.Reducing.{told as told_of}
use Rattle.reduction.specs.Table.{terms_of, table_of}
use Rattle.reduction.proofs.Lines.{row_at}
use Rattle.reduction.proofs.Renaming.{renamed, unrefused}
use Rattle.sheet.proofs.FairCopying.{row_bytes, row_denied}
use Rattle.sheet.proofs.Present.{answered}
use Rattle.sheet.proofs.copy.copy_row.Goals as goal

pub unwrap-requires : goal.unwrap-requires
unwrap-requires g c = c.reduce_tail.ensures.there.1 c.requires.within

pub returns-in_err-map_err-clause-copy : goal.returns-in_err-map_err-clause-copy
returns-in_err-map_err-clause-copy g c =
    let d = c.in_err-map_err.field-0.0 in
    let e = renamed c.unwrap.result c.map_err.result _ c.map_err.ensures.cases d c.in_err-map_err.was in
    let p = e.2 in
    let t : told d ≡ told_of e.0 = search (rules, tests) in
    let y : c.from_residual.result ≡ Err d = search rules in
    let a = answered _ c.reduce_tail.result c.unwrap.result c.reduce_tail.ensures.answer c.unwrap.ensures in
    rw y (row_denied _ (table_of c.args.rows.now.rows.now) (row (table_of c.args.rows.now.rows.now) c.args.k) d (vec_items c.args.bytes.now.written) (vec_items c.args.bytes.now.written) t (rw e.1 at a))

pub returns-clause-copy : goal.returns-clause-copy
returns-clause-copy g c =
    let rows = c.args.rows.now.rows.now in
    let k = c.args.k in
    let f = row (table_of rows) k in
    let h = vec_items c.reduce_tail.new.work.done.terms in
    let a = answered _ c.reduce_tail.result c.unwrap.result c.reduce_tail.ensures.answer c.unwrap.ensures in
    let o = unrefused c.unwrap.result c.map_err.result _ c.map_err.ensures.cases c.in_ok-map_err.field-0 c.in_ok-map_err.was in
    let w : c.as_slice.result.now ≡ f = c.as_slice.ensures.value ∙ ap terms_of (sym c.index-rows-k.is) ∙ sym (row_at rows k c.requires.within c.index-rows-k.result c.index-rows-k.is) in
    (h, (rw o at a).comes, row_bytes f h (take 1 c.as_slice.result.now) c.as_slice-2.result.now (vec_items c.args.bytes.now.written) (vec_items c.push_terms.new.self.written) (vec_items c.push_terms-2.new.self.written) (vec_items c.push_reserved.new.self) (ap (take 1) w) c.as_slice-2.ensures.value c.push_terms.ensures.items c.push_terms-2.ensures.items c.push_reserved.ensures.items)
