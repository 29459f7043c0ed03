-- `hybrid::step` meets its contract: the test picks the rule's case. Assumes nothing.
use mathlib.Core.Path.{refl}
use native.Mathlib.Nat.{add-zero}
use Rattle.letters.proofs.LetterLaws.{compared}
use Rattle.hits.specs.Counts.{noted_all}
use Rattle.hybrid.proofs.HybridLaws.{turn_yes, turn_no}
use Rattle.hybrid.proofs.step.Goals as goal

pub returns-then-common-ne0 : goal.returns-then-common-ne0
returns-then-common-ne0 c =
    let a = c.args in
    rw (turn_yes a.pattern.now a.t.now a.a (rw c.letters-p.ensures.0 at ((compared c.common.ensures).some c.if-common-ne0.true))) c.steps_from.ensures

pub returns : goal.returns
unfolding noted_all
returns c =
    let a = c.args in
    rw (turn_no a.pattern.now a.t.now a.a (rw c.letters-p.ensures.0 at ((compared c.common.ensures).none c.if-common-ne0.false)), c.next_start.ensures, c.letters-p.ensures.0)
    (record { answers = rw (add-zero a.total); leaves = refl })
