-- What the parts of a step are handed.
use Rattle.std.specs.Prelude.{ℕ, ◌+◌, ◌-◌, ◌≤◌, ◌≡◌, Bool, ◌&&◌, List, length}
use Rattle.letters.specs.Sizes.{SizedPattern}
use Rattle.hits.specs.Singles.{all_single}
use Rattle.hits.specs.declared.scan.Back.{Back}
use Rattle.pattern.specs.Tables.{EndShifts}
use Rattle.bm.specs.Bm.{end_met}

-- what is worked out from a pattern P within its limit M: its shifts from the end, and whether it is all single
pub record BmReady (M : ℕ) (P by : List ℕ) (whole : Bool) : Type 0 where
  pub sized : SizedPattern M P
  pub ends : EndShifts P by
  pub single : whole ≡ all_single P 0 (length P)

-- the scan at start i stopped at b: how many letters are left, and whether P and the text letters that meet are all single
pub record Stopped (P T : List ℕ) (i : ℕ) (b : Back) : Type 0 where
  pub inside : i + length P ≤ length T
  pub top : b.left ≤ length P
  pub rest : length P - b.left ≡ end_met P T i
  pub single : b.sure ≡ (all_single P 0 (length P) && all_single T (i + b.left) (length P - b.left))
