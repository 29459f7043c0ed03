-- `hybrid::search` meets its contract: what the search of any engine promises, with Hybrid's counts. Assumes nothing.
use Prim.Native.Nat.{ℕ, ◌+◌, ◌-◌, ◌*◌, ◌≤◌, ◌<◌}
use mathlib.Core.Path.{◌≡◌, refl}
use mathlib.Core.List.{List}
use native.Mathlib.Omega.{arith}
use lib.ListN.{length}
use Rattle.std.specs.Prelude.{Ok, Err}
use Rattle.hits.specs.Hits.{hits}
use Rattle.inputs.specs.Refusals.{Check}
use Rattle.inputs.specs.Answers.{answer_of, scan_of, steps_of}
use Rattle.inputs.proofs.CheckLaws.{sized}
use Rattle.hybrid.specs.Hybrid.{hybrid_run}
use Rattle.hybrid.proofs.HybridLaws.{hybrid_scan, hybrid_steps, hybrid_work}
use Rattle.hybrid.proofs.search.Goals as goal

-- by what the checks say
bounds : (P T : List ℕ) (c : Check) → (c ≡ Ok tt → 0 < length P)
    → (scan_of (answer_of c (hits P T) (hybrid_run P T)) ≤ length T + 1 - length P)
    × (steps_of (answer_of c (hits P T) (hybrid_run P T)) ≤ length T)
    × (scan_of (answer_of c (hits P T) (hybrid_run P T)) + steps_of (answer_of c (hits P T) (hybrid_run P T)) ≤ 2 * length T + 1 - length P)
bounds P T (Err r) some = (omega arith, omega arith, omega arith)
bounds P T (Ok tt) some = (hybrid_scan P T (some refl), hybrid_steps P T (some refl), hybrid_work P T (some refl))

pub returns : goal.returns
returns c = record { promise = c.search.ensures; bound = rw c.search.ensures.answers (bounds _ _ _ (λ e. (sized _ _ _ _ _ _ e).pattern.some)) }
