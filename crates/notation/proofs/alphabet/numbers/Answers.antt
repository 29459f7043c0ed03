-- `notation::alphabet::numbers` meets its contract: the table holds the numbers of the letters stored so far, from the last on. Assumes nothing.
use Rattle.notation.proofs.FindLaws.{stored_none, stored_on}
use Rattle.notation.proofs.alphabet.numbers.Goals as goal

pub loop-i-init : goal.loop-i-init
loop-i-init c = stored_none c.args.alphabet.now

pub loop-i-preserved : goal.loop-i-preserved
loop-i-preserved c = stored_on c.loop-i.invariant c.loop-i-test.true _ c.from.ensures
