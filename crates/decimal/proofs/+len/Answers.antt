-- `decimal::len` meets its contract. Assumes nothing.
use Prim.Native.Nat.{◌/◌}
use mathlib.Core.Path.{sym, ap}
use native.Mathlib.Omega.{arith}
use lib.ListN.{length}
use Rattle.decimal.proofs.DecimalLaws.{decimal_short, decimal_one, decimal_length}
use Rattle.decimal.proofs.+len.Goals as goal

pub returns-then-n-lt10 : goal.returns-then-n-lt10
returns-then-n-lt10 t c = sym (ap length (decimal_one _ c.if-n-lt10.true))

pub overflow_add-result : goal.overflow_add-result
overflow_add-result t c =
    let n = c.args.n in
    let f = c.ranges.n.fits in
    omega (arith, c.len.ensures, decimal_short 20 (n / 10) (omega arith) (omega arith) (omega arith))

pub returns : goal.returns
returns t c =
    let n = c.args.n in
    let f = c.ranges.n.fits in
    omega (arith, c.len.ensures, decimal_length n c.if-n-lt10.false f)
