use Prim.Native.Nat.{ℕ, ◌+◌, ◌*◌, ◌≤◌}
use mathlib.Core.Path.{◌≡◌}
use mathlib.Core.List.{List}
use lib.ListN.{length, drop}
use Rattle.reportbytes.specs.Bytes.{start_lines}
use Rattle.reportbytes.proofs.lengths.starts_len.Given as goal

-- the sum, with the lines of the starts from i on, is the whole
pub record Summing (starts : List ℕ) (sum i : ℕ) : Type 0 where
  pub small : sum ≤ 21 * i
  pub whole : sum + length (start_lines (drop i starts)) ≡ length (start_lines starts)

abbrev pub invariant-loop-start : goal.invariant-loop-start
invariant-loop-start l = Summing l.starts l.sum l.start-index
