-- `choices::settle` meets its contract: no pass loses a choice, and after one that changes nothing the sets decide. Assumes nothing.
use native.Mathlib.Nat.{le_refl}
use Rattle.letters.specs.declared.strings.TheConstants.Pattern.{MAX_M}
use native.Mathlib.Omega.{arith}
use mathlib.Core.Path.{sym, ap, ◌∙◌}
use mathlib.Core.Bool.{not}
use lib.ListN.{length}
use Rattle.choices.proofs.JoinLaws.{length_passed, passed_falls}
use Rattle.choices.proofs.TieLaws.{zeros_back, cut_cands, pass_cands}
use Rattle.choices.proofs.SettleLaws.{still_settled, settled_end}
use Rattle.choices.proofs.settle.Goals as goal

pub invariant_of-ties : goal.invariant_of-ties
invariant_of-ties c = record { above_back = zeros_back MAX_M; under_back = zeros_back MAX_M }

pub loop-ties-init : goal.loop-ties-init
loop-ties-init c = record { cands = cut_cands _ _ _ _ (rw c.requires.2 at c.cut.ensures); room = c.cut.ensures.room ∙ ap length c.requires.2 }

pub loop-ties-smaller : goal.loop-ties-smaller
loop-ties-smaller c =
    let r = c.find.new.self in
    rw c.pass.ensures.1 (passed_falls r.above r.under _ r.above_back r.under_back _ (le_refl _) (sym c.pass.ensures.0 ∙ c.loop-ties-test.true))

pub loop-ties-preserved : goal.loop-ties-preserved
loop-ties-preserved c =
    let r = c.find.new.self in
    let w = c.loop-ties.invariant in
    record {
      cands = rw c.pass.ensures.1 (pass_cands _ _ _ r.above r.under c.find.ensures _ w.cands _ (omega (arith, w.room)));
      room = ap length c.pass.ensures.1 ∙ length_passed r.above r.under _ _ ∙ w.room;
    }

pub returns : goal.returns
returns c =
    let w = c.loop-ties.invariant in
    let r = c.find.new.self in
    let room = ap length c.pass.ensures.1 ∙ length_passed r.above r.under _ _ ∙ w.room in
    let e = settled_end _ _ _ _ (still_settled _ _ _ _ _ _ _ c.find.ensures w.cands w.room (sym c.pass.ensures.0 ∙ c.loop-ties-test.false) c.pass.ensures.1) room c.requires.1 _ (ap not c.contains.ensures.value) in
    (e.0, room, e.1)
