use Rattle.std.proofs.Common.{◌≡◌, get_or, bit_or}
use Rattle.letters.specs.declared.letter.TheConstants.Letter.{MAX_K}
use Rattle.letters.specs.Members.{members, walked, union_of}
use Rattle.letters.proofs.members.union.Given as goal

-- what is joined so far, with the rows of the members to come, is the whole union
abbrev pub invariant-loop-b : goal.invariant-loop-b
invariant-loop-b l = walked (λ all b. bit_or all (get_or l.rows b 0)) l.all (members MAX_K l.b-iterator.left) ≡ union_of l.rows (members MAX_K l.c)
