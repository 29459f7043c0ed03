use lib.ListN.{length}
use Rattle.pattern.specs.Tables.{mask_in}
use Rattle.pattern.proofs.GrowLaws.{Grown}
use Rattle.pattern.proofs.masks.Masks.of.Given as goal

abbrev pub invariant-loop-j : goal.invariant-loop-j
invariant-loop-j l = Grown (length l.initial.rows) (mask_in l.p) l.j l.rows
