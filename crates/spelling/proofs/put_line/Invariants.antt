use Rattle.std.proofs.Common.{drop}
use Rattle.lent.proofs.StoreLaws.{Storing}
use Rattle.notation.specs.Spelling.{line}
use Rattle.spelling.proofs.put_line.Given as goal

abbrev pub invariant-loop-i : goal.invariant-loop-i
invariant-loop-i l = Storing l.initial.out l.at (line l.alphabet l.letters) (line l.alphabet (drop l.i l.letters)) l.out l.e
