use Rattle.notation.specs.Spelling.{pick}
use Rattle.lent.proofs.StoreLaws.{Storing}
use Rattle.spelling.proofs.LineLaws.{rest_of}
use Rattle.spelling.proofs.put_members.Given as goal

abbrev pub invariant-loop-b : goal.invariant-loop-b
invariant-loop-b l = Storing l.initial.out l.at (pick l.alphabet l.c) (rest_of l.alphabet l.c l.b) l.out l.e
