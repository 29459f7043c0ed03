-- `guest::Guest::run` meets its contract: its scan tests are those of brute's run, which fit. The other goals are found. Assumes nothing.
use native.Mathlib.Omega.{arith}
use Rattle.brute.specs.Brute.{brute_run}
use Rattle.brute.proofs.BruteLaws.{brute_small}
use Rattle.guest.proofs.GuestRule.run.Goals as goal

pub run_starts-requires-clause-scan : goal.run_starts-requires-clause-scan
unfolding brute_run
run_starts-requires-clause-scan c = omega (arith, brute_small c.requires)
