use Rattle.notation.proofs.FreshLaws.{BytesRead}
use Rattle.notation.proofs.alphabet.read_bytes.Given as goal

abbrev pub invariant-loop-i : goal.invariant-loop-i
invariant-loop-i l = BytesRead l.sheet l.from l.k l.i
