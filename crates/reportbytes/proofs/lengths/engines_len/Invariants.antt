use Prim.Native.Nat.{ℕ, ◌+◌, ◌*◌, ◌≤◌}
use mathlib.Core.Path.{◌≡◌}
use mathlib.Core.List.{List, map}
use lib.ListN.{length, drop}
use Rattle.hits.specs.declared.work.Work.{Work}
use Rattle.engines.specs.Engines.{the_six}
use Rattle.reportbytes.specs.Values.{run_in}
use Rattle.reportbytes.specs.Bytes.{engine_lines}
use Rattle.reportbytes.proofs.lengths.engines_len.Given as goal

-- the sum, with the lines of the engines from i on, is the whole
pub record Summing (works : List Work) (sum i : ℕ) : Type 0 where
  pub small : sum ≤ 72 * i
  pub whole : sum + length (engine_lines (drop i the_six) (drop i (map run_in works))) ≡ length (engine_lines the_six (map run_in works))

abbrev pub invariant-loop-i : goal.invariant-loop-i
invariant-loop-i l = Summing l.works l.sum l.i
