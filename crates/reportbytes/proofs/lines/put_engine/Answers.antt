-- `reportbytes::lines::put_engine` meets its contract: the name, then the counts. Assumes nothing.
use Rattle.engines.specs.Engines.{name_of}
use Rattle.reportbytes.specs.Bytes.{counts, engine_line}
use Rattle.reportbytes.specs.Values.{run_in}
use Rattle.reportbytes.proofs.PutLaws.{put_first, put_room, put_both}
use Rattle.reportbytes.proofs.lines.put_engine.Goals as goal

pub put_name-a-requires : goal.put_name-a-requires
unfolding engine_line
put_name-a-requires c = put_first _ _ (name_of c.args.e) (counts (run_in c.args.w)) c.requires

pub put_counts-requires : goal.put_counts-requires
unfolding engine_line
put_counts-requires c = put_room _ _ (name_of c.args.e) (counts (run_in c.args.w)) c.put_name-a.ensures c.requires

pub returns : goal.returns
unfolding engine_line
returns c = put_both _ _ (name_of c.args.e) (counts (run_in c.args.w)) c.put_name-a.ensures c.put_counts.ensures
