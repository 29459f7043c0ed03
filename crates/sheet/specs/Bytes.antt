-- A right sheet: the bytes of strings that are accepted. Three sections in a fixed order, each after its count: alphabet, pattern, text.
use Rattle.std.specs.Prelude.{ℕ, ◌≤◌, ◌≡◌, List, ◌∷◌, ◌++◌, length, Ok}
use Rattle.decimal.specs.Decimal.{decimal}
use Rattle.inputs.specs.Refusals.{verdict}
use Rattle.notation.specs.Alphabet.{Alphabet}
use Rattle.notation.specs.Spelling.{line}

-- the bytes of the alphabet A, the pattern P and the text T; a line ends by LF, which `line` has in it
unfoldable pub sheet_bytes : List ℕ → List ℕ → List ℕ → List ℕ
sheet_bytes A P T =
    decimal (length A) ++ (10 ∷ (A ++ (10 ∷ (decimal (length P) ++ (10 ∷ (line A P ++ (decimal (length T) ++ (10 ∷ line A T))))))))

-- an alphabet, with strings that pass the checks of a search, whose sheet is not too long. B, K, M and N are the largest sheet, k, m and n
pub record Accepted (B K M N : ℕ) (A P T : List ℕ) : Type 0 where
  pub alphabet : Alphabet A
  pub passed : verdict K M N (length A) P T ≡ Ok tt
  pub fits : length (sheet_bytes A P T) ≤ B

pub record RightSheet (B K M N : ℕ) (s : List ℕ) : Type 0 where
  pub A : List ℕ
  pub P : List ℕ
  pub T : List ℕ
  pub accepted : Accepted B K M N A P T
  pub bytes : s ≡ sheet_bytes A P T
