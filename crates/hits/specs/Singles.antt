-- Stretches of single letters.
use Rattle.std.specs.Prelude.{ℕ, zero, suc, ◌+◌, Bool, true, cond, ◌&&◌, List, get_or}
use Rattle.letters.specs.Letters.{single}

-- the c letters of T from a on are all single
unfoldable pub all_single : List ℕ → ℕ → ℕ → Bool
all_single T a zero = true
all_single T a (suc c) = all_single T a c && single (get_or T (a + c) 0)

-- the index after the last letter that is not single, a mark too, among the first e of T; or 0
unfoldable pub not_single_below : List ℕ → ℕ → ℕ
not_single_below T zero = 0
not_single_below T (suc e) = cond (single (get_or T e 0)) (not_single_below T e) (suc e)
