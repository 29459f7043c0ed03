-- `tables::fars` meets its contract: each entry below s is told by `far`. Assumes nothing.
use native.Mathlib.Omega.{arith}
use Rattle.pattern.proofs.TableLaws.{told_on}
use Rattle.pattern.proofs.tables.fars.Goals.{else-loop-s-test, then-loop-s-test+else-s-m}
use Rattle.pattern.proofs.tables.fars.Goals as goal

pub loop-s-preserved : goal.loop-s-preserved
loop-s-preserved g c = told_on c.loop-s.invariant (omega arith) c.far.ensures

pub returns : goal.returns
returns g c = λ s a b.
    elim c.loop-s-test.branch [
      | else-loop-s-test w ↦ rw w.all-is (c.loop-s.invariant.told s a (omega arith))
      | then-loop-s-test+else-s-m w ↦ let t = told_on c.loop-s.invariant (omega arith) w.far.ensures in rw w.all-is (t.told s a (omega arith))
    ]
