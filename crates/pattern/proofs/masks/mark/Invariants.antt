use Rattle.std.proofs.Common.{◌≡◌, ℕ, List, get_or, set, bit_or}
use Rattle.letters.specs.declared.letter.TheConstants.Letter.{MAX_K}
use Rattle.letters.specs.Members.{members, walked}
use Rattle.pattern.proofs.masks.mark.Given as goal

-- a member's row takes the place in
abbrev step : ℕ → List ℕ → ℕ → List ℕ
step place x b = set x b (bit_or (get_or x b 0) place)

-- the members to come bring the rows so far to where all of them bring the first rows
abbrev pub invariant-loop-b : goal.invariant-loop-b
invariant-loop-b l = walked (step l.place) l.rows (members MAX_K l.b-iterator.left) ≡ walked (step l.place) l.initial.rows (members MAX_K l.c)
