-- `Readied::first_shift` of BM meets its contract: the shift and its tests by trying, or from the table, cut, with none. Assumes nothing.
use Prim.Native.Nat.{ℕ, ◌+◌, ◌-◌}
use mathlib.Core.Path.{◌≡◌, sym, ap, ◌∙◌}
use mathlib.Core.Bool.{true, ◌&&◌}
use native.Mathlib.Omega.{arith}
use lib.ListN.{length}
use Rattle.letters.proofs.Truth.{and_true_l, and_true_r}
use Rattle.shifts.specs.Shift.{trials}
use Rattle.hits.specs.Singles.{all_single}
use Rattle.pattern.proofs.ShiftTable.{end_shift}
use Rattle.bm.specs.Bm.{first_shift}
use Rattle.bm.proofs.StepLaws.{tests_sure, tests_tried}
use Rattle.bm.proofs.Readied.first_shift.Goals as goal

pub returns-then-b : goal.returns-then-b
unfolding first_shift
returns-then-b c =
    let P = c.args.p.now in
    let T = c.args.t.now in
    let i = c.args.i in
    let left = c.args.b.left in
    let r = c.requires.ready in
    let h = c.requires.stopped in
    let g = length P - left in
    let z : length P - g ≡ left = omega (arith, h.top) in
    let y : (all_single P 0 (length P) && all_single T (i + (length P - g)) g) ≡ true = rw z (sym h.single ∙ c.if-b.true) in (
      c.min.ensures
          ∙ sym
          (end_shift P T c.args.self.now.by.now i g r.ends h.inside h.rest
          (and_true_l (all_single P 0 (length P)) _ y)
          (and_true_r (all_single P 0 (length P)) _ y)),
      sym (tests_sure P T i g y),
    )

pub returns : goal.returns
unfolding first_shift
returns c =
    let P = c.args.p.now in
    let T = c.args.t.now in
    let i = c.args.i in
    let left = c.args.b.left in
    let h = c.requires.stopped in
    let z : length P - (length P - left) ≡ left = omega (arith, h.top) in (
      rw z c.try_shifts.ensures.0,
      c.try_shifts.ensures.1
          ∙ ap (λ (x : ℕ). trials P T i x (length P) 1 (length P - 1)) (sym z)
          ∙ sym (tests_tried P T i (length P - left) (rw z (sym h.single ∙ c.if-b.false))),
    )
