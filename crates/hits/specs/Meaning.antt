-- What a list of hits is, said without tests: for readers who would rather not compute.
use Rattle.std.specs.Prelude.{ℕ, ◌+◌, ◌≤◌, ◌<◌, ◌≡◌, List, [], ◌∷◌, ◌⊎◌, length, get_or}
use Rattle.letters.specs.Digits.{digit}

-- base letter b belongs to both letters
abbrev pub InBoth : ℕ → ℕ → ℕ → Type 0
InBoth b x y = (digit b x ≡ 1) × (digit b y ≡ 1)

-- P fits into T from i on, and every letter of P shares a base letter with the letter of T under it
pub record Hit (P T : List ℕ) (i : ℕ) : Type 0 where
  pub fits : i + length P ≤ length T
  pub share : (j : ℕ) → j < length P → (b : ℕ) × InBoth b (get_or P j 0) (get_or T (i + j) 0)

-- i stands in the list
unfoldable pub Listed : ℕ → List ℕ → Type 0
Listed i [] = ⊥
Listed i (x ∷ xs) = (i ≡ x) ⊎ Listed i xs

-- each element is below all that follow it
unfoldable pub Ascends : List ℕ → Type 0
Ascends [] = Unit
Ascends (x ∷ xs) = ((i : ℕ) → Listed i xs → x < i) × Ascends xs
