-- Whether a pattern and the text letters that a scan right to left has passed are all single, letter by letter. Assumes nothing.
use mathlib.Core.Path.{◌≡◌, refl, sym, ap, ◌∙◌}
use mathlib.Core.Bool.{Bool, true, false, ◌&&◌, and-false}
use mathlib.Core.List.{List}
use Prim.Native.Nat.{ℕ, ◌+◌, ◌-◌, ◌≤◌, ◌<◌}
use native.Mathlib.Omega.{arith}
use lib.ListN.{get_or}
use Rattle.letters.specs.Letters.{single}
use Rattle.hits.specs.Singles.{all_single}
use Rattle.hits.proofs.BackLaws.{singles_down}
use Rattle.hits.proofs.SingleLaws.{singles_none}

-- a third test among two that hold, or not
among_true : (a b s : Bool) → (a && b) ≡ true → s ≡ (a && (s && b))
among_true true true true e = refl
among_true true true false e = refl
among_true true false s e = cc
among_true false b s e = cc

among_false : (a b s : Bool) → (a && b) ≡ false → false ≡ (a && (s && b))
among_false true true s e = cc
among_false true false s e = sym (and-false s)
among_false false b s e = refl

-- a pattern that is all single, or not; m letters from i on, of which k are left
module _ (whole : Bool) (T : List ℕ) (i m : ℕ) where
  abbrev sure : ℕ → Bool
  sure k = whole && all_single T (i + k) (m - k)

  pub sure_start : whole ≡ sure m
  sure_start = let z : m - m ≡ 0 = omega arith in rw (z, singles_none T (i + m)) (sym (and_true whole))
    where
      and_true : (b : Bool) → (b && true) ≡ b
      and_true true = refl
      and_true false = refl

  module _ (k : ℕ) (l : 0 < k) (h : k ≤ m) where
    down : sure (k - 1) ≡ (whole && (single (get_or T (i + (k - 1)) 0) && all_single T (i + k) (m - k)))
    down = ap (λ (b : Bool). whole && b) (singles_down T i m k l h)

    -- while all are, the next letter decides
    pub sure_on : sure k ≡ true → single (get_or T (i + (k - 1)) 0) ≡ sure (k - 1)
    sure_on e = among_true whole (all_single T (i + k) (m - k)) (single (get_or T (i + (k - 1)) 0)) e ∙ sym down

    -- once one is not, none does
    pub sure_off : sure k ≡ false → false ≡ sure (k - 1)
    sure_off e = among_false whole (all_single T (i + k) (m - k)) (single (get_or T (i + (k - 1)) 0)) e ∙ sym down
