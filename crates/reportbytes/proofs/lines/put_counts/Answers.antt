-- `reportbytes::lines::put_counts` meets its contract: the three counts one after another. Assumes nothing.
use mathlib.Core.List.{◌++◌}
use Rattle.decimal.specs.Decimal.{ended}
use Rattle.reportbytes.specs.Bytes.{counts}
use Rattle.reportbytes.proofs.PutLaws.{put_first, put_room, put_both}
use Rattle.reportbytes.proofs.lines.put_counts.Goals as goal

pub put_ended-a-requires : goal.put_ended-a-requires
unfolding counts
put_ended-a-requires c = let w = c.args.w in put_first _ _ (ended w.scan 32) (ended w.shift 32 ++ ended w.steps 10) c.requires

pub put_ended-b-requires : goal.put_ended-b-requires
unfolding counts
put_ended-b-requires c =
    let w = c.args.w in
    put_first _ _ (ended w.shift 32) (ended w.steps 10) (put_room _ _ (ended w.scan 32) _ c.put_ended-a.ensures c.requires)

pub put_ended-requires : goal.put_ended-requires
unfolding counts
put_ended-requires c =
    let w = c.args.w in
    put_room _ _ (ended w.shift 32) (ended w.steps 10) c.put_ended-b.ensures (put_room _ _ (ended w.scan 32) _ c.put_ended-a.ensures c.requires)

pub returns : goal.returns
unfolding counts
returns c =
    let w = c.args.w in
    put_both _ _ (ended w.scan 32) _ c.put_ended-a.ensures (put_both _ _ (ended w.shift 32) (ended w.steps 10) c.put_ended-b.ensures c.put_ended.ensures)
