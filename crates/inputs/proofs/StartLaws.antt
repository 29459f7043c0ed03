-- An engine whose turns settle the starts that they pass is sound. Assumes nothing.
use mathlib.Core.Path.{◌≡◌, ap}
use mathlib.Core.List.{List}
use Prim.Native.Nat.{ℕ, suc, ◌+◌, ◌≤◌}
use native.Mathlib.Omega.{arith}
use lib.ListN.{length}
use Rattle.hits.specs.Hits.{within}
use Rattle.hits.specs.Turns.{Turn}
use Rattle.hits.specs.Counts.{turn_of}
use Rattle.hits.specs.declared.work.Turned.{Turned}
use Rattle.hits.proofs.RunLaws.{Sound, Passing, by_start}
use Rattle.inputs.specs.Starts.{Settling}

module _ {P T : List ℕ} {turn : ℕ → Turn ℕ} (settles : Settling P T turn) where
  pub passing : Passing P T turn
  passing i l =
      let s = settles i l in
      let moved = s.moved in
      record { falls = omega arith; still = tt; gap = suc s.more; moved = moved; right = s.right }

  pub settled : Sound P T (within P T) turn (suc (length T)) 0
  settled = by_start passing

  -- the next start that a step answers is at most one past the text
  pub next_near : (i : ℕ) → i + length P ≤ length T → (r : Turned) → turn_of i r ≡ turn i → r.next ≤ length T + 1
  next_near i l r q = rw (ap (λ (t : Turn ℕ). t.next) q) (settles i l).near
