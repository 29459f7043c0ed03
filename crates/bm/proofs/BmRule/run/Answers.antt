-- `bm::Bm::run` meets its contract: its turns settle the starts that they pass, so the run over all starts is its own. Assumes nothing.
use mathlib.Core.Path.{sym}
use native.Mathlib.Omega.{arith}
use Rattle.pattern.proofs.EntryLaws.{all_sure, end_table}
use Rattle.bm.specs.Bm.{bm_run}
use Rattle.bm.proofs.BmLaws.{settles, bm_scan_small, bm_shift_small}
use Rattle.bm.proofs.BmRule.run.Goals as goal

pub run_starts-requires-clause-ready : goal.run_starts-requires-clause-ready
run_starts-requires-clause-ready c = record { sized = c.requires.pattern; ends = end_table _ c.requires.pattern c.from_end-shifts.ensures; single = sym (all_sure _ _ c.new-sure.ensures) }

pub run_starts-requires-clause-settles : goal.run_starts-requires-clause-settles
run_starts-requires-clause-settles c = settles _ _

pub run_starts-requires-clause-scan : goal.run_starts-requires-clause-scan
unfolding bm_run
run_starts-requires-clause-scan c = omega (arith, bm_scan_small c.requires)

pub run_starts-requires-clause-shift : goal.run_starts-requires-clause-shift
unfolding bm_run
run_starts-requires-clause-shift c = omega (arith, bm_shift_small c.requires)

pub returns : goal.returns
unfolding bm_run
returns c = c.run_starts.ensures
