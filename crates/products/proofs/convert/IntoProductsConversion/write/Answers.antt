-- `products::convert::IntoProductsConversion::write` meets its contract: after i turns the first i products are written. Assumes nothing.
use mathlib.Core.Path.{sym}
use native.Mathlib.Omega.{arith}
use lib.ListN.{get_or}
use Rattle.products.specs.Primes.{product_of}
use Rattle.lent.proofs.MapLaws.{written_next}
use Rattle.products.proofs.CheckLaws.{in_table}
use Rattle.products.proofs.convert.IntoProductsConversion.write.Goals as goal

pub bounds-entries-letters : goal.bounds-entries-letters
bounds-entries-letters c = in_table _ c.args.letters.now c.requires.1 c.loop-i.i (omega arith)

pub loop-i-preserved : goal.loop-i-preserved
loop-i-preserved c =
    let a = c.args in
    let xs = a.letters.now in
    rw (c.table-entries.ensures.at (get_or xs c.loop-i.i 0) (in_table _ xs c.requires.1 c.loop-i.i (omega arith)), c.loop-i.invariant) (sym (written_next product_of xs a.products.now c.loop-i.i (omega arith)))
