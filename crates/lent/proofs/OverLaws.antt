-- Laws of elements written over the front of lent memory. Assumes nothing.
use mathlib.Core.Path.{◌≡◌, refl, ap, ◌∙◌}
use mathlib.Core.List.{List, [], ◌∷◌, ◌++◌}
use Prim.Native.Nat.{ℕ, suc, ◌≤◌}
use native.Mathlib.Omega.{arith}
use lib.ListN.{length, set, take}
use lib.Seq.{sets}
use Rattle.lent.specs.Over.{over}

-- one element more
pub over_snoc : (xs : List ℕ) (x : ℕ) (d : List ℕ) → over (xs ++ (x ∷ [])) d ≡ set (over xs d) (length xs) x
unfolding over
over_snoc [] x [] = refl
over_snoc [] x (y ∷ d) = refl
over_snoc (z ∷ xs) x [] = refl
over_snoc (z ∷ xs) x (y ∷ d) = rw (over_snoc xs x d)

pub length_over : (xs d : List ℕ) → length (over xs d) ≡ length d
unfolding over
length_over [] d = refl
length_over (z ∷ xs) [] = refl
length_over (z ∷ xs) (y ∷ d) = ap suc (length_over xs d)

-- what was written stands in front
pub take_over : (xs d : List ℕ) → length xs ≤ length d → take (length xs) (over xs d) ≡ xs
unfolding over
take_over [] d h = refl
take_over (x ∷ xs) [] h = absurd (omega arith)
take_over (x ∷ xs) (y ∷ d) h = ap (λ (l : List ℕ). x ∷ l) (take_over xs d (omega arith))

sets_nil : (i : ℕ) (vs : List ℕ) → sets [] i vs ≡ []
sets_nil i [] = refl
sets_nil i (v ∷ vs) = sets_nil (suc i) vs

sets_cons : (x : ℕ) (d : List ℕ) (i : ℕ) (vs : List ℕ) → sets (x ∷ d) (suc i) vs ≡ x ∷ sets d i vs
sets_cons x d i [] = refl
sets_cons x d i (v ∷ vs) = sets_cons x (set d i v) (suc i) vs

-- elements stored one after another, from the front on
pub sets_over : (d vs : List ℕ) → sets d 0 vs ≡ over vs d
unfolding over
sets_over d [] = refl
sets_over [] (v ∷ vs) = sets_nil 1 vs
sets_over (y ∷ d) (v ∷ vs) = sets_cons v d 0 vs ∙ ap (λ (xs : List ℕ). v ∷ xs) (sets_over d vs)
