use Prim.Native.Nat.{◌+◌}
use lib.ListN.{get_or}
use Rattle.letters.specs.Letters.{shared}
use Rattle.lent.proofs.FillLaws.{Filled}
use Rattle.choices.proofs.cut.Given as goal

abbrev pub invariant-loop-j : goal.invariant-loop-j
invariant-loop-j l = Filled 0 (λ h. shared (get_or l.initial.own h 0) (get_or l.t (l.i + h) 0)) l.initial.own l.j l.own
