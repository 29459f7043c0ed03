use Rattle.std.proofs.Common.{◌≡◌, ◌+◌, length, drop}
use Rattle.notation.specs.Spelling.{line}
use Rattle.spelling.proofs.line_len.Given as goal

abbrev pub invariant-loop-c : goal.invariant-loop-c
invariant-loop-c l = l.n + length (line l.alphabet (drop l.c-index l.letters)) ≡ length (line l.alphabet l.letters) + 1
