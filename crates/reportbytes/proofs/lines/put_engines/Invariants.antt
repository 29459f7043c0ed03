use mathlib.Core.List.{map}
use lib.ListN.{drop}
use Rattle.lent.proofs.StoreLaws.{Storing}
use Rattle.engines.specs.Engines.{the_six}
use Rattle.reportbytes.specs.Values.{run_in}
use Rattle.reportbytes.specs.Bytes.{engine_lines}
use Rattle.reportbytes.proofs.lines.put_engines.Given as goal

abbrev pub invariant-loop-i : goal.invariant-loop-i
invariant-loop-i l = Storing l.initial.out l.at (engine_lines the_six (map run_in l.works)) (engine_lines (drop l.i the_six) (drop l.i (map run_in l.works))) l.out l.end
