-- There is one first wrong byte, whatever the right lines are. Assumes nothing.
use mathlib.Core.Path.{◌≡◌, subst}
use mathlib.Core.List.{List, ◌++◌, append_assoc}
use Prim.Native.Nat.{ℕ, suc, ◌≤◌}
use native.Mathlib.Omega.{arith}
use borrow.Author.Tests.{ltb-true, ltb-false}
use lib.Dec.{ltb}
use lib.ListN.{take, drop, take-append-drop}
use lib.Seq.{take-take}
use Rattle.letters.proofs.Truth.{bool_cases}
use Rattle.notation.specs.Wrong.{Begins, FirstWrong}

module _ (Right : List ℕ → Type 0) where
  -- what begins a right line when it goes on, begins one
  begins_shorter : (w v : List ℕ) → Begins Right (w ++ v) → Begins Right w
  begins_shorter w v b = record { rest = v ++ b.rest; right = subst Right (append_assoc w v b.rest) b.right }

  begins_less : (s : List ℕ) (i j : ℕ) → i ≤ j → Begins Right (take j s) → Begins Right (take i s)
  begins_less s i j h b = begins_shorter (take i s) (drop i (take j s)) (rw (← take-take i j s h, take-append-drop i (take j s)) b)

  pub first_wrong_unique : (s : List ℕ) (p q : ℕ) → FirstWrong Right s p → FirstWrong Right s q → p ≡ q
  first_wrong_unique s p q a b =
      bool_cases (ltb p q)
      (λ e. let l = ltb-true p q e in absurd (a.wrong (omega (arith, b.within)) (begins_less s (suc p) q l b.before)))
      (λ e. bool_cases (ltb q p)
      (λ f. let l = ltb-true q p f in absurd (b.wrong (omega (arith, a.within)) (begins_less s (suc q) p l a.before)))
      (λ f. let l = ltb-false p q e in let m = ltb-false q p f in omega arith))
