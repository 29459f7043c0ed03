-- `reportbytes::lines::put_starts` meets its contract. The loop keeps that the lines of the starts from the index on are left to write. Assumes nothing.
use native.Mathlib.Omega.{arith}
use Rattle.lent.proofs.StoreLaws.{so_on, so_end, so_fits}
use Rattle.decimal.specs.Decimal.{ended}
use Rattle.reportbytes.proofs.LineLaws.{starts_on, starts_end}
use Rattle.reportbytes.proofs.lines.put_starts.Goals as goal

pub put_ended-end-requires : goal.put_ended-end-requires
put_ended-end-requires c =
    let next = starts_on c.args.starts.now c.loop-start.start-index _ c.from.ensures (omega arith) in
    so_fits _ _ _ _ _ _ (ended c.from.result 10) _ c.loop-start.invariant c.requires next

pub loop-start-preserved : goal.loop-start-preserved
loop-start-preserved c =
    let next = starts_on c.args.starts.now c.loop-start.start-index _ c.from.ensures (omega arith) in
    so_on _ _ _ _ _ _ c.loop-start.invariant (ended c.from.result 10) _ _ _ next c.put_ended-end.ensures.1 c.put_ended-end.ensures.0

pub returns : goal.returns
returns c = so_end _ _ _ _ _ _ (starts_end c.args.starts.now c.loop-start.start-index (omega arith)) c.loop-start.invariant
