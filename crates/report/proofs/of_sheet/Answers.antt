-- `report::of_sheet` meets its contract: what the reader answered picks the case. That no report is longer than its bound is computed. Assumes nothing.
use mathlib.Core.Path.{refl, sym}
use native.Mathlib.Omega.{arith}
use borrow.Author.Rules.{rules}
use borrow.Author.Tests.{leb-true}
use lib.Seq.{length-take-le}
use Rattle.decimal.specs.Decimal.{decimal_to, decimal, ended}
use Rattle.engines.proofs.CountLaws.{most_of}
use Rattle.reportbytes.specs.Bytes.{counts, engine_line, engine_lines}
use Rattle.report.proofs.BoundLaws.{sizes, most}
use Rattle.report.proofs.PromiseLaws.{got_read, got_refused, searchable, sheet_refused, sheet_read}
use Rattle.report.proofs.of_sheet.Goals as goal

pub slice_bounds-pattern-end : goal.slice_bounds-pattern-end
slice_bounds-pattern-end c = (got_read _ _ _ _ _ _ _ _ c.read.ensures.promise (search rules) (search rules) (search rules) _ c.in_ok-sizes.was).pattern_fits

pub slice_bounds-of_strings-end : goal.slice_bounds-of_strings-end
slice_bounds-of_strings-end c =
    sym (length-take-le _ _ (got_read _ _ _ _ _ _ _ _ c.read.ensures.promise (search rules) (search rules) (search rules) _ c.in_ok-sizes.was).pattern_fits)

pub slice_bounds-text-end : goal.slice_bounds-text-end
slice_bounds-text-end c = (got_read _ _ _ _ _ _ _ _ c.read.ensures.promise (search rules) (search rules) (search rules) _ c.in_ok-sizes.was).text_fits

pub slice_bounds-of_strings-end-2 : goal.slice_bounds-of_strings-end-2
slice_bounds-of_strings-end-2 c =
    sym (length-take-le _ _ (got_read _ _ _ _ _ _ _ _ c.read.ensures.promise (search rules) (search rules) (search rules) _ c.in_ok-sizes.was).text_fits)

pub of_strings-requires : goal.of_strings-requires
of_strings-requires c = searchable (got_read _ _ _ _ _ _ _ _ c.read.ensures.promise (search rules) (search rules) (search rules) _ c.in_ok-sizes.was)

pub returns-in_err-sizes : goal.returns-in_err-sizes
returns-in_err-sizes c =
    let r = got_refused _ _ _ _ _ _ _ _ c.read.ensures.promise (search rules) (search rules) (search rules) _ c.in_err-sizes.was in
    let q = sheet_refused _ _ _ _ 40000 c.args.sheet.now c.args.out.now _ r c.from_residual.result (search rules) in
    record { promise = q.0; enough = q.1.0; small = q.1.1 }

pub returns : goal.returns
unfolding most sizes most_of engine_lines engine_line counts ended decimal decimal_to
returns c =
    let g = got_read _ _ _ _ _ _ _ _ c.read.ensures.promise (search rules) (search rules) (search rules) _ c.in_ok-sizes.was in
    let a = c.args in
    let q = sheet_read _ _ _ _ 40000 a.sheet.now a.out.now _ _ g c.of_strings.ensures (omega arith) (leb-true _ _ refl) in
    record { promise = q.0; enough = q.1.0; small = q.1.1 }
