-- A scan of a pattern's letters against the text, until a pair does not meet.
--
--   reach, tests      left to right: how far it goes, and the tests that it makes
--   back, back_tests   right to left: how many letters meet, and the tests that it makes
use Rattle.std.specs.Prelude.{ℕ, zero, suc, ◌+◌, cond, List, get_or}
use Rattle.letters.specs.Letters.{meets}

-- from letter r of P, standing at start i, f letters to go: the index of the first that does not meet, or of the end
unfoldable pub reach : List ℕ → List ℕ → ℕ → ℕ → ℕ → ℕ
reach P T i r zero = r
reach P T i r (suc f) = cond (meets (get_or P r 0) (get_or T (i + r) 0)) (reach P T i (suc r) f) r

-- the tests that such a scan makes
unfoldable pub tests : List ℕ → List ℕ → ℕ → ℕ → ℕ → ℕ
tests P T i r zero = 0
tests P T i r (suc f) = suc (cond (meets (get_or P r 0) (get_or T (i + r) 0)) (tests P T i (suc r) f) 0)

-- P standing at start i, from its letter e - 1 leftwards: how many meet before one does not
unfoldable pub back : List ℕ → List ℕ → ℕ → ℕ → ℕ
back P T i zero = 0
back P T i (suc e) = cond (meets (get_or P e 0) (get_or T (i + e) 0)) (suc (back P T i e)) 0

-- the tests that such a scan makes
unfoldable pub back_tests : List ℕ → List ℕ → ℕ → ℕ → ℕ
back_tests P T i zero = 0
back_tests P T i (suc e) = suc (cond (meets (get_or P e 0) (get_or T (i + e) 0)) (back_tests P T i e) 0)
