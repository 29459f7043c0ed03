-- `Hybrid::run` meets its contract: the loop stands at a start that is no further than one past the text. Assumes nothing.
use Prim.Native.Nat.{ℕ, ◌+◌, ◌≤◌, ◌<◌}
use mathlib.Core.Path.{ap}
use mathlib.Core.List.{List}
use native.Mathlib.Omega.{arith}
use lib.ListN.{length}
use Rattle.hits.specs.declared.work.Work.{Work}
use Rattle.hits.proofs.LoopLaws.{Standing, stand, few, scan_rises, steps_rise, move_all, all_done}
use Rattle.hybrid.specs.Hybrid.{hybrid_turn, hybrid_run, HybridTurns}
use Rattle.hybrid.specs.declared.HybridTurned.{HybridTurned}
use Rattle.hybrid.proofs.HybridLaws.{sound, turning, hybrid_scan, hybrid_steps}
use Rattle.hybrid.proofs.HybridRule.run.Invariants.{counted}
use Rattle.hybrid.proofs.HybridRule.run.Goals as goal

-- what a pass comes to whose step made the turn at a, noted its hits and left the list so
record Passed (P T : List ℕ) (p : 0 < length P) (d : List ℕ) (a : ℕ) (w : Work) (r : HybridTurned) (list' : List ℕ) : Type 0 where
  on : a < r.next
  near : r.next ≤ length T + 1
  scan_fits : w.scan + r.scan ≤ length T + 1
  steps_fit : w.steps + r.steps ≤ length T
  stands : Standing (sound P T p) d (length P) (length T) r.next list' (counted r.total (w.scan + r.scan) (w.steps + r.steps))

passed : {P T : List ℕ} (p : 0 < length P) (d : List ℕ) (a : ℕ) (list : List ℕ) (total scan steps : ℕ) → Standing (sound P T p) d (length P) (length T) a list (counted total scan steps)
    → a + length P ≤ length T → (r : HybridTurned) (list' : List ℕ) → HybridTurns (hybrid_turn P T a) list total r list' → Passed P T p d a (counted total scan steps) r list'
unfolding hybrid_run
passed {P} {T} p d a list total scan steps h l r list' q =
    let e = q.answers in
    let t = turning P T p a l in
    let u : r.next ≤ length T + 1 = rw e t.near in
    record {
      on = rw e t.on;
      near = u;
      scan_fits = rw e (omega (arith, scan_rises (sound P T p) d _ _ a list _ h l, hybrid_scan P T p));
      steps_fit = rw e (omega (arith, steps_rise (sound P T p) d _ _ a list _ h l, hybrid_steps P T p));
      stands =
          move_all (sound P T p) d _ _ a list _ h l _ list' _ u
          (ap (λ (x : HybridTurned). x.next) e)
          q.leaves
          (ap (λ (x : HybridTurned). x.total) e)
          (ap (λ (x : HybridTurned). scan + x.scan) e)
          (omega (arith, t.untried))
          (ap (λ (x : HybridTurned). steps + x.steps) e);
    }

pub loop-a-init : goal.loop-a-init
loop-a-init c = (omega arith, stand (sound _ _ (omega arith)) _)

pub step-s-requires : goal.step-s-requires
step-s-requires c =
    let s = c.requires in
    let h = few (sound _ _ _) _ _ _ _ _ _ c.loop-a.invariant.1 in
    rw c.of-pattern.ensures (omega (arith, s.small), omega arith)

pub overflow_add-scan : goal.overflow_add-scan
overflow_add-scan c = omega (arith, (passed c.loop-a.invariant.0 _ _ _ _ _ _ c.loop-a.invariant.1 (omega arith) _ _ (rw c.of-pattern.ensures at c.step-s.ensures)).scan_fits, c.requires.small)

pub overflow_add-steps : goal.overflow_add-steps
overflow_add-steps c = omega (arith, (passed c.loop-a.invariant.0 _ _ _ _ _ _ c.loop-a.invariant.1 (omega arith) _ _ (rw c.of-pattern.ensures at c.step-s.ensures)).steps_fit, c.requires.small)

pub loop-a-smaller : goal.loop-a-smaller
loop-a-smaller c =
    let w = passed c.loop-a.invariant.0 _ _ _ _ _ _ c.loop-a.invariant.1 (omega arith) _ _ (rw c.of-pattern.ensures at c.step-s.ensures) in
    omega (arith, w.on, w.near)

pub loop-a-preserved : goal.loop-a-preserved
loop-a-preserved c = (c.loop-a.invariant.0, (passed c.loop-a.invariant.0 _ _ _ _ _ _ c.loop-a.invariant.1 (omega arith) _ _ (rw c.of-pattern.ensures at c.step-s.ensures)).stands)

pub returns : goal.returns
unfolding hybrid_run
returns c = all_done (sound _ _ _) _ _ _ _ _ _ c.loop-a.invariant.1 (omega arith)
