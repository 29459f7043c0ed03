-- The first element of a string with a property.
use Rattle.std.specs.Prelude.{ℕ, suc, Bool, cond, List, [], ◌∷◌, ltb, length}

-- the lowest index of an element that has it, or the length where there is none
unfoldable pub first_with : (ℕ → Bool) → List ℕ → ℕ
first_with b [] = 0
first_with b (x ∷ xs) = cond (b x) 0 (suc (first_with b xs))

-- there is one
abbrev pub some_with : (ℕ → Bool) → List ℕ → Bool
some_with b xs = ltb (first_with b xs) (length xs)
