-- `bm::fail_shift` meets its contract: R + 1 is taken from j + 1, and 1 is the least. Assumes nothing.
use native.Mathlib.Omega.{arith}
use Rattle.bm.specs.Bm.{fail_shift}
use Rattle.bm.proofs.fail_shift.Goals as goal

pub returns : goal.returns
unfolding fail_shift
returns c = omega arith
