-- `shiftand::step` meets its contract: its word step is the rule's. Assumes nothing.
use Rattle.shiftand.specs.ShiftAnd.{shiftand_turn}
use Rattle.shiftand.proofs.step.Goals as goal

pub returns : goal.returns
unfolding shiftand_turn
returns c = λ t e. rw (c.ends.ensures, e, ← c.step-next.ensures)
