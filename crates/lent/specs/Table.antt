-- A list of numbers, each by its index.
--
--   table n f   the n numbers f 0, f 1, ..
use Rattle.std.specs.Prelude.{ℕ, zero, suc, List, [], ◌∷◌}

-- those of the n indices from a on
unfoldable pub table_from : ℕ → ℕ → (ℕ → ℕ) → List ℕ
table_from a zero f = []
table_from a (suc n) f = f a ∷ table_from (suc a) n f

unfoldable pub table : ℕ → (ℕ → ℕ) → List ℕ
table n f = table_from 0 n f
