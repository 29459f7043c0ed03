-- `shiftand::search` meets its contract: what the search of any engine promises, with ShiftAnd's counts. Assumes nothing.
use Prim.Native.Nat.{ℕ, ◌≤◌, ◌<◌}
use mathlib.Core.Path.{◌≡◌, refl}
use mathlib.Core.List.{List}
use native.Mathlib.Omega.{arith}
use lib.ListN.{length}
use Rattle.std.specs.Prelude.{Ok, Err}
use Rattle.hits.specs.Hits.{hits}
use Rattle.inputs.specs.Refusals.{Check}
use Rattle.inputs.specs.Answers.{answer_of, scan_of, shift_of, steps_of}
use Rattle.inputs.proofs.CheckLaws.{sized}
use Rattle.shiftand.specs.ShiftAnd.{shiftand_run, StepsAre}
use Rattle.shiftand.proofs.ShiftAndLaws.{shiftand_scan, shiftand_shift, shiftand_small, shiftand_steps}
use Rattle.shiftand.proofs.search.Goals as goal

module _ (P T : List ℕ) where
  -- by what the checks say
  bounds : (c : Check) → (c ≡ Ok tt → 0 < length P)
      → (scan_of (answer_of c (hits P T) (shiftand_run P T)) ≡ 0) × (shift_of (answer_of c (hits P T) (shiftand_run P T)) ≡ 0) × (steps_of (answer_of c (hits P T) (shiftand_run P T)) ≤ length T)
  bounds (Err r) some = (refl, refl, omega arith)
  bounds (Ok tt) some = (shiftand_scan P T (some refl), shiftand_shift P T (some refl), shiftand_small P T)

  steps_are : (c : Check) → StepsAre P T (answer_of c (hits P T) (shiftand_run P T))
  steps_are (Err r) = tt
  steps_are (Ok tt) = shiftand_steps P T

pub returns : goal.returns
returns c =
    let e = c.search.ensures in
    record { promise = e; bound = rw e.answers (bounds _ _ _ (λ y. (sized _ _ _ _ _ _ y).pattern.some)); steps = rw e.answers (steps_are _ _ _) }
