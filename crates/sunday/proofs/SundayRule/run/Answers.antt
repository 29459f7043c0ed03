-- `sunday::Sunday::run` meets its contract: its turns settle the starts that they pass, so the run over all starts is its own. Assumes nothing.
use native.Mathlib.Omega.{arith}
use Rattle.sunday.specs.Sunday.{sunday_run}
use Rattle.sunday.proofs.SundayLaws.{settles, sunday_small, sunday_shift}
use Rattle.sunday.proofs.SundayRule.run.Goals as goal

pub run_starts-requires-clause-settles : goal.run_starts-requires-clause-settles
run_starts-requires-clause-settles c = settles _ _

pub run_starts-requires-clause-scan : goal.run_starts-requires-clause-scan
unfolding sunday_run
run_starts-requires-clause-scan c = omega (arith, sunday_small c.requires)

pub run_starts-requires-clause-shift : goal.run_starts-requires-clause-shift
unfolding sunday_run
run_starts-requires-clause-shift c = omega (arith, sunday_shift c.args.p.now c.args.t.now)

pub returns : goal.returns
unfolding sunday_run
returns c = c.run_starts.ensures
