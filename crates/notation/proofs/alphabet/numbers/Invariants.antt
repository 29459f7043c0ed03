use Rattle.notation.proofs.FindLaws.{StoredFrom}
use Rattle.notation.proofs.alphabet.numbers.Given as goal

abbrev pub invariant-loop-i : goal.invariant-loop-i
invariant-loop-i l = StoredFrom l.alphabet l.numbers l.i
