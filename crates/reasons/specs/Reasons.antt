-- What the letters share, where P stands at a start of T.
--
--   shared_at P T i   for each letter of P, the set of members that it and the text letter under it have in common
--   SharedInto       the promise of the call that writes them
--   SharedCalled     its promise from C
use Rattle.std.specs.Prelude.{ℕ, ◌+◌, List, ℤ, length, get_or, Result}
use Rattle.letters.specs.Letters.{shared}
use Rattle.lent.specs.Table.{table}
use Rattle.inputs.specs.Refusals.{verdict_at}
use Rattle.inputs.specs.Answers.{WrittenInto}
use Rattle.inputs.specs.declared.refusal.Refusal.{Refusal}
use Rattle.codes.specs.Codes.{WrittenCalled}

-- for j from 0 to m - 1: what P[j] and T[i + j] share; a set without members is 0
unfoldable pub shared_at : List ℕ → List ℕ → ℕ → List ℕ
shared_at P T i = table (length P) (λ j. shared (get_or P j 0) (get_or T (i + j) 0))

-- d is the lent list before, `left` afterwards: the m sets over its front where the checks pass, whether start i is a hit or not
abbrev pub SharedInto : ℕ → ℕ → ℕ → ℕ → List ℕ → List ℕ → ℕ → List ℕ → Result ℕ Refusal → List ℕ → Type 0
SharedInto K M N k P T i d r left = WrittenInto (verdict_at K M N k P T i (length d)) (shared_at P T i) d r left

abbrev pub SharedCalled : ℕ → ℕ → ℕ → ℕ → List ℕ → List ℕ → ℕ → List ℕ → ℤ → List ℕ → Type 0
SharedCalled K M N k P T i d r left = WrittenCalled (verdict_at K M N k P T i (length d)) (shared_at P T i) d r left
