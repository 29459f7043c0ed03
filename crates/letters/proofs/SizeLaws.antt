-- Laws of sizes. Assumes nothing.
use mathlib.Core.Path.{◌≡◌}
use mathlib.Core.Bool.{false}
use Prim.Native.Nat.{ℕ, ◌≤◌}
use borrow.Author.Tests.{ltb-false, le-ltb}
use lib.Dec.{ltb}
use Rattle.letters.specs.Sizes.{outside}
use Rattle.letters.proofs.Truth.{or_false_l, or_false_r}

-- a size that is not outside its limits
pub inside_least : (least most x : ℕ) → outside least most x ≡ false → least ≤ x
unfolding outside
inside_least least most x e = ltb-false x least (or_false_l (ltb x least) (ltb most x) e)

pub inside_most : (least most x : ℕ) → outside least most x ≡ false → x ≤ most
unfolding outside
inside_most least most x e = ltb-false most x (or_false_r (ltb x least) (ltb most x) e)

pub inside : (least most x : ℕ) → least ≤ x → x ≤ most → outside least most x ≡ false
unfolding outside
inside least most x l h = rw (le-ltb x least l, le-ltb most x h)
