-- A list of the values of f at a, a + 1, and so on; and what stands in it: how a table's rule is proved once, over all entries. Assumes nothing.
use mathlib.Core.Path.{◌≡◌, ap, ◌∙◌}
use mathlib.Core.List.{List, [], ◌∷◌}
use Prim.Native.Nat.{ℕ, zero, suc, ◌+◌, ◌<◌}
use native.Mathlib.Nat.{zero-add, le_of_suc-le-suc, not-suc-le-zero}
use native.Mathlib.Omega.{arith}
use lib.ListN.{get_or}

unfoldable pub tabulate : (ℕ → ℕ) → ℕ → ℕ → List ℕ
tabulate f a zero = []
tabulate f a (suc n) = f a ∷ tabulate f (suc a) n

from : (f : ℕ → ℕ) (a n k : ℕ) → k < n → get_or (tabulate f a n) k 0 ≡ f (a + k)
unfolding tabulate
from f a zero k h = absurd (not-suc-le-zero h)
from f a (suc n) zero h = ap f (let e : a ≡ a + 0 = omega arith in e)
from f a (suc n) (suc k) h = from f (suc a) n k (le_of_suc-le-suc h) ∙ ap f (let e : suc a + k ≡ a + suc k = omega arith in e)

pub entry : (f : ℕ → ℕ) (n k : ℕ) → k < n → get_or (tabulate f 0 n) k 0 ≡ f k
entry f n k h = from f 0 n k h ∙ ap f (zero-add k)
