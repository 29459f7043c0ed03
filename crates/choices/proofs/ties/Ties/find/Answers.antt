-- `choices::ties::Ties::find` meets its contract: no pair is tied to one behind it. Assumes nothing.
use native.Mathlib.Omega.{arith}
use Rattle.choices.proofs.TieLaws.{tie_le, set_back}
use Rattle.choices.proofs.ties.Ties.find.Goals as goal

pub invariant_of-self : goal.invariant_of-self
invariant_of-self c =
    let w = c.loop-j.self in
    let j = c.loop-j.j in record {
      above_back = set_back _ _ _ (omega arith) w.above_back (rw c.tie.ensures (tie_le _ _ _ _ j));
      under_back = set_back _ _ _ (omega arith) w.under_back (rw c.tie-in-loop-j.ensures (tie_le _ _ _ _ j));
    }
