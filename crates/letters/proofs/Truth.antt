-- Laws of truth values. Assumes nothing.
use mathlib.Core.Path.{◌≡◌, refl, sym, ◌∙◌}
use mathlib.Core.Bool.{Bool, true, false, ◌||◌, ◌&&◌}
use Prim.Native.Nat.{ℕ}
use native.Mathlib.Omega.{arith}

-- by cases on a test
pub bool_cases {ℓ} : {R : Type ℓ} (b : Bool) → (b ≡ true → R) → (b ≡ false → R) → R
bool_cases true y n = y refl
bool_cases false y n = n refl

-- a test is not both
pub both_ways : (b : Bool) → b ≡ true → b ≡ false → ⊥
both_ways b y n = let z : true ≡ false = sym y ∙ n in let v : ◌≡◌ {A = ℕ} 0 1 = cc in omega arith

-- two tests that hold together are one
pub same_test : (a b : Bool) → (a ≡ true → b ≡ true) → (b ≡ true → a ≡ true) → a ≡ b
same_test true b f g = sym (f refl)
same_test false true f g = g refl
same_test false false f g = refl

pub or_false_l : (a b : Bool) → (a || b) ≡ false → a ≡ false
or_false_l true b e = e
or_false_l false b e = refl

pub or_false_r : (a b : Bool) → (a || b) ≡ false → b ≡ false
or_false_r true b e = let z : true ≡ false = e in cc
or_false_r false b e = e

pub and_true_l : (a b : Bool) → (a && b) ≡ true → a ≡ true
and_true_l true b e = refl
and_true_l false b e = e

pub and_true_r : (a b : Bool) → (a && b) ≡ true → b ≡ true
and_true_r true b e = e
and_true_r false b e = let z : false ≡ true = e in cc

pub and_yes : (b : Bool) → (b && true) ≡ b
and_yes true = refl
and_yes false = refl
