-- `decimal::count::is_right` meets its contract. Assumes nothing.
use Rattle.std.proofs.Common.{arith}
use lib.ListN.{get_or-eq_default}
use Rattle.std.proofs.lemmas.Bool.Decides.{nat_tests}
use Rattle.decimal.specs.CountLine.{right_count}
use Rattle.decimal.proofs.count.is_right.Goals as goal

pub returns-after-n-gt1 : goal.returns-after-n-gt1
unfolding right_count
returns-after-n-gt1 c = grind (arith, nat_tests)

pub returns-else-ended : goal.returns-else-ended
unfolding right_count
returns-else-ended c = grind (arith, nat_tests, get_or-eq_default)
