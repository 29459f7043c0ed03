-- Sizes: which are outside their limits, and what a function may ask of its strings.
--
--   outside least most x   x is below the least or above the most
--   SizedPattern M P       P is a pattern within its limit, which is M
--   Sized M N P T          and T a text within its limit, which is N
--   Below k cs             no letter of cs has a member at or above k
use Rattle.std.specs.Prelude.{ℕ, ◌^◌, ◌≤◌, ◌<◌, Bool, ◌||◌, List, ltb, length, get_or}

unfoldable pub outside : ℕ → ℕ → ℕ → Bool
outside least most x = ltb x least || ltb most x

pub record SizedPattern (M : ℕ) (P : List ℕ) : Type 0 where
  pub some : 0 < length P
  pub short : length P ≤ M

pub record Sized (M N : ℕ) (P T : List ℕ) : Type 0 where
  pub pattern : SizedPattern M P
  pub small : length T ≤ N

abbrev pub Below : ℕ → List ℕ → Type 0
Below k cs = (i : ℕ) → i < length cs → get_or cs i 0 < 2 ^ k
