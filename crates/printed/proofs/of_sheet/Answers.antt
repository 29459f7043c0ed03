-- `printed::of_sheet` meets its contract: the lists' lengths are those that are wanted. Assumes nothing.
use native.Mathlib.Omega.{arith}
use Rattle.printed.proofs.LineLaws.{no_more}
use Rattle.printed.proofs.of_sheet.Goals as goal

pub returns : goal.returns
returns c = record { promise = c.of_front.ensures.promise; all = no_more _ _ _ _ _ _ (omega arith); within = c.of_front.ensures.within }
