-- `reportbytes::lines::put_engines` meets its contract. The loop keeps that the lines of the engines from i on are left to write. Assumes nothing.
use native.Mathlib.Omega.{arith}
use borrow.Author.Rules.{rules}
use Rattle.lent.proofs.StoreLaws.{so_on, so_end, so_fits}
use Rattle.reportbytes.proofs.LineLaws.{line_at, engines_on, engines_end}
use Rattle.reportbytes.proofs.lines.put_engines.Goals as goal

pub put_engine-end-requires : goal.put_engine-end-requires
put_engine-end-requires c =
    let next = engines_on c.args.works.now c.loop-i.i (omega arith) (search rules) in
    so_fits _ _ _ _ _ _ (line_at c.args.works.now c.loop-i.i) _ c.loop-i.invariant c.requires next

pub loop-i-preserved : goal.loop-i-preserved
loop-i-preserved c =
    let next = engines_on c.args.works.now c.loop-i.i (omega arith) (search rules) in
    so_on _ _ _ _ _ _ c.loop-i.invariant (line_at c.args.works.now c.loop-i.i) _ _ _ next c.put_engine-end.ensures.1 c.put_engine-end.ensures.0

pub returns : goal.returns
returns c = so_end _ _ _ _ _ _ (engines_end c.args.works.now c.loop-i.i (omega arith)) c.loop-i.invariant
