-- What writing hits into a lent list leaves there. Assumes nothing.
use mathlib.Core.Path.{◌≡◌, refl, sym, ap, ◌∙◌}
use mathlib.Core.Bool.{Bool, true, false}
use mathlib.Core.List.{List, [], ◌∷◌, ◌++◌, append-nil, append_assoc}
use Prim.Native.Nat.{ℕ, suc, ◌≤◌}
use native.Mathlib.Omega.{arith}
use native.Mathlib.Numerals.{add-one}
use lib.ListN.{length, set, length-append, length-set}
use Rattle.letters.specs.Members.{keep}
use Rattle.lent.specs.Over.{over}
use Rattle.lent.proofs.OverLaws.{over_snoc}
use Rattle.hits.specs.Counts.{tally, noted, noted_all}

-- noting hits one after the other writes them over the list's front
pub noted_over : (xs past d : List ℕ) → noted_all xs (over past d) (length past) ≡ over (past ++ xs) d
unfolding noted_all
noted_over [] past d = ap (λ (l : List ℕ). over l d) (sym (append-nil past))
noted_over (x ∷ xs) past d =
    let l : suc (length past) ≡ length (past ++ (x ∷ [])) = sym (length-append past (x ∷ []) ∙ add-one (length past)) in
    rw (← over_snoc past x d, l)
    (noted_over xs (past ++ (x ∷ [])) d ∙ ap (λ (l : List ℕ). over l d) (append_assoc past (x ∷ []) xs))

-- noting a start, hit or not, is noting what a test of it found
pub noted_keep : (b : Bool) (i : ℕ) (d : List ℕ) (total : ℕ) → noted b d total i ≡ noted_all (keep b i []) d total
unfolding noted_all
noted_keep true i d total = refl
noted_keep false i d total = refl

pub tally_keep : (b : Bool) (i : ℕ) → tally b ≡ length (keep b i [])
tally_keep true i = refl
tally_keep false i = refl

pub tally_le : (b : Bool) → tally b ≤ 1
tally_le true = omega arith
tally_le false = omega arith

pub length_noted : (xs d : List ℕ) (total : ℕ) → length (noted_all xs d total) ≡ length d
unfolding noted_all
length_noted [] d total = refl
length_noted (x ∷ xs) d total = length_noted xs (set d total x) (suc total) ∙ length-set d total x
