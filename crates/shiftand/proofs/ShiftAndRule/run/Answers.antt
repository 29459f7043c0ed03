-- `ShiftAnd::run` meets its contract: the loop keeps `SoFar`, which has what the state means in it. Assumes nothing.
use Prim.Native.Nat.{ℕ, suc, ◌+◌, ◌-◌, ◌≤◌, ◌<◌}
use mathlib.Core.Path.{◌≡◌, refl, sym, ap}
use mathlib.Core.List.{List}
use native.Mathlib.Omega.{arith}
use lib.ListN.{length}
use Rattle.lent.specs.Over.{over}
use Rattle.hits.specs.Counts.{tally, noted, work_of}
use Rattle.hits.specs.Hits.{hits}
use Rattle.hits.specs.Turns.{Turn}
use Rattle.hits.proofs.HitLaws.{too_long}
use Rattle.hits.proofs.LoopLaws.{SoFar, start, pass_one, total_le, end_list, end_work}
use Rattle.shiftand.specs.ShiftAnd.{Reading, shiftand_turn, shiftand_run, word_turn_of}
use Rattle.shiftand.specs.declared.WordTurned.{WordTurned}
use Rattle.shiftand.proofs.ShiftAndLaws.{sound, is_unread, is_read, shiftand_idle}
use Rattle.shiftand.proofs.ShiftAndRule.run.Invariants.{counted, at}
use Rattle.shiftand.proofs.ShiftAndRule.run.Goals as goal

-- the step reads one letter
one_on : (P T : List ℕ) (read word : ℕ) (r : WordTurned) → word_turn_of P r ≡ shiftand_turn P T (at read word) → r.read ≡ read + 1
unfolding shiftand_turn
one_on P T read word r q = ap (λ (x : Turn Reading). x.next.read) q

module _ {P T d : List ℕ} {list : List ℕ} {read word total : ℕ} (some : 0 < length P) (h : SoFar (sound P T some) d (at read word) list (counted total read)) where
  few : total ≤ suc (length T)
  few = total_le (sound P T some) d _ _ _ h

  -- a pass of the loop: what the step answered is the turn at the next letter
  move : length P ≤ length T → read < length T → (r : WordTurned) → word_turn_of P r ≡ shiftand_turn P T (at read word)
      → (list' : List ℕ) (total' : ℕ) → list' ≡ noted r.hit list total (r.read - length P) → total' ≡ total + tally r.hit
      → SoFar (sound P T some) d (at (read + 1) r.word) list' (counted total' (read + 1))
  move fits l r q list' total' el et =
      rw (one_on P T read word r q) at
      (pass_one (sound P T some) d (at read word) list (counted total read) h (is_unread P T (at read word) fits l) (at r.read r.word) list' (counted total' (read + 1)) r.hit (r.read - length P)
      (ap (λ (x : Turn Reading). x.next) q)
      (ap (λ (x : Turn Reading). x.found) (sym q))
      el
      et
      (ap (λ (x : Turn Reading). 0 + x.scan) q)
      (ap (λ (x : Turn Reading). 0 + x.shift) q)
      (ap (λ (x : Turn Reading). read + x.steps) q))

  -- at the text's end it is all
  all_read : length T ≤ read → (counted total read ≡ work_of (hits P T) (shiftand_run P T)) × (list ≡ over (hits P T) d)
  unfolding shiftand_run
  all_read l =
      let z = is_read P T (at read word) l in
      (end_work (sound P T some) d _ _ _ h z, end_list (sound P T some) d _ _ _ h z)

pub returns-then-t-m : goal.returns-then-t-m
unfolding over
returns-then-t-m c =
    let a = c.args in
    let l : length a.t.now < length a.p.now = omega arith in
    (rw (shiftand_idle a.p.now a.t.now l, too_long a.p.now a.t.now l), rw (too_long a.p.now a.t.now l))

pub loop-read-init : goal.loop-read-init
loop-read-init c = λ some. start (sound _ _ some) _

pub note_end-total-requires : goal.note_end-total-requires
note_end-total-requires c =
    let some = c.requires.pattern.some in
    let turned = rw c.of-pattern.ensures at (c.step-s.ensures c.args.t.now refl) in
    omega (arith, few some (c.loop-read.invariant some), one_on _ _ _ _ c.step-s.result turned)

pub loop-read-preserved : goal.loop-read-preserved
loop-read-preserved c =
    let turned = rw c.of-pattern.ensures at (c.step-s.ensures c.args.t.now refl) in
    λ some. move some (c.loop-read.invariant some) (omega arith) (omega arith) c.step-s.result turned _ _ c.note_end-total.ensures.1 c.note_end-total.ensures.0

pub returns : goal.returns
returns c =
    let some = c.requires.pattern.some in
    let all : c.loop-read.read ≡ length c.args.t.now = omega arith in
    rw (← all) (all_read some (c.loop-read.invariant some) (omega arith))
