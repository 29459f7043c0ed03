-- `reportbytes::lengths::starts_len` meets its contract. Assumes nothing.
use Prim.Native.Nat.{◌+◌}
use mathlib.Core.Path.{ap}
use native.Mathlib.Omega.{arith}
use lib.ListN.{length, drop, length-append}
use Rattle.decimal.specs.Decimal.{ended}
use Rattle.reportbytes.specs.Bytes.{start_lines}
use Rattle.reportbytes.proofs.LineLaws.{starts_on, starts_end}
use Rattle.reportbytes.proofs.lengths.starts_len.Goals as goal

pub loop-start-preserved : goal.loop-start-preserved
loop-start-preserved c =
    let xs = c.args.starts.now in
    let i = c.loop-start.start-index in
    let x = c.from.result in
    record {
      small = omega (arith, c.loop-start.invariant.small, c.ended_len-sum.ensures.2);
      whole = omega (arith, c.loop-start.invariant.whole, c.ended_len-sum.ensures.0, ap length (starts_on xs i x c.from.ensures (omega arith)), length-append (ended x 10) (start_lines (drop (i + 1) xs)));
    }

pub returns : goal.returns
returns c =
    let v = c.loop-start.invariant in
    (omega (arith, v.whole, ap length (starts_end c.args.starts.now c.loop-start.start-index (omega arith))), omega (arith, v.small))
