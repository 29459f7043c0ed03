-- What lent memory holds after elements were written over its front, or from a place on.
use Rattle.std.specs.Prelude.{ℕ, ◌+◌, ◌≡◌, List, [], ◌∷◌, length}
use Rattle.std.proofs.lemmas.List.Edits.{sets}

-- xs over the front of d, as far as d reaches; the rest of d as it was
unfoldable pub over : List ℕ → List ℕ → List ℕ
over [] d = d
over (x ∷ xs) [] = []
over (x ∷ xs) (y ∷ d) = x ∷ over xs d

-- xs stand in d from the place `at` on: the answer is the place after them, and `left` is the memory afterwards
abbrev pub Stored : List ℕ → ℕ → List ℕ → ℕ → List ℕ → Type 0
Stored d at xs r left = (r ≡ at + length xs) × (left ≡ sets d at xs)
