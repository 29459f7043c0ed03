-- R(c), the greatest pattern index whose letter meets c, held as one more than the index, so that 0 stands for none.
use Rattle.std.specs.Prelude.{ℕ, zero, suc, cond, List, length, get_or}
use Rattle.letters.specs.Letters.{meets}

-- one more than the greatest of P's first h indices whose letter meets c, or 0
unfoldable pub last_in : List ℕ → ℕ → ℕ → ℕ
last_in P c zero = 0
last_in P c (suc h) = cond (meets (get_or P h 0) c) (suc h) (last_in P c h)

-- R(c) + 1
unfoldable pub after_r : List ℕ → ℕ → ℕ
after_r P c = last_in P c (length P)
