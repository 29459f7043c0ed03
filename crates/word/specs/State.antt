-- The state of the word engines, by its digits: a function from pattern positions to 0 or 1. No width is named here.
--
--   Stepped D M D'     D' is the state D after one word step: moved up one place, a 1 brought in, the positions of M kept
--   alive P T a e j    the first j + 1 letters of P meet the text that ends before e, and that stretch began at or after a
--   Means P T a e D    what D says where it was cleared at a and the text was read from there to before e
--   Marks P c M        M has the pattern positions that meet c
use Rattle.std.specs.Prelude.{ℕ, zero, suc, ◌+◌, ◌-◌, min, ◌≡◌, Bool, ◌&&◌, List, leb, get_or}
use Rattle.letters.specs.Letters.{meets}
use Rattle.hits.specs.Hits.{met}
use Rattle.hits.specs.Counts.{tally}

-- the digit that comes to the place j: the one below it, and a 1 at the lowest place
abbrev pub below : (ℕ → ℕ) → ℕ → ℕ
below D zero = 1
below D (suc j) = D j

abbrev pub Stepped : (ℕ → ℕ) → (ℕ → ℕ) → (ℕ → ℕ) → Type 0
Stepped D M D' = (j : ℕ) → D' j ≡ min (below D j) (M j)

unfoldable pub alive : List ℕ → List ℕ → ℕ → ℕ → ℕ → Bool
alive P T a e j = leb (a + suc j) e && met P T (e - suc j) 0 (suc j)

-- digit j is set exactly if the first j + 1 letters are alive
abbrev pub Means : List ℕ → List ℕ → ℕ → ℕ → (ℕ → ℕ) → Type 0
Means P T a e D = (j : ℕ) → D j ≡ tally (alive P T a e j)

abbrev pub Marks : List ℕ → ℕ → (ℕ → ℕ) → Type 0
Marks P c M = (j : ℕ) → M j ≡ tally (meets (get_or P j 0) c)
