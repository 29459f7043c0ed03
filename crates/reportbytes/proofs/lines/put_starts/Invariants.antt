use lib.ListN.{drop}
use Rattle.lent.proofs.StoreLaws.{Storing}
use Rattle.reportbytes.specs.Bytes.{start_lines}
use Rattle.reportbytes.proofs.lines.put_starts.Given as goal

abbrev pub invariant-loop-start : goal.invariant-loop-start
invariant-loop-start l = Storing l.initial.out l.at (start_lines l.starts) (start_lines (drop l.start-index l.starts)) l.out l.end
