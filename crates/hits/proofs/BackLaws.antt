-- Laws of a scan from right to left. Assumes nothing.
use mathlib.Core.Path.{◌≡◌, refl, sym, ◌∙◌}
use mathlib.Core.Bool.{Bool, true, false, ◌&&◌, and-false}
use mathlib.Core.List.{List}
use Prim.Native.Nat.{ℕ, zero, suc, ◌+◌, ◌-◌, ◌≤◌, ◌<◌, zero-le}
use native.Mathlib.Omega.{arith}
use borrow.Author.Tests.{le-leb, lt-leb, lt-ltb}
use lib.Dec.{leb, ltb, leb-suc-suc}
use lib.ListN.{get_or}
use Rattle.letters.specs.Letters.{meets, single}
use Rattle.hits.specs.Counts.{tally}
use Rattle.letters.proofs.Truth.{bool_cases}
use Rattle.hits.specs.Hits.{met}
use Rattle.hits.specs.Scans.{back, back_tests}
use Rattle.hits.specs.Singles.{all_single}
use Rattle.hits.proofs.SingleLaws.{singles_cons}
use Rattle.hits.proofs.MetLaws.{met_snoc}

module _ (P T : List ℕ) (i : ℕ) where
  abbrev at : ℕ → Bool
  at j = meets (get_or P j 0) (get_or T (i + j) 0)

  pub back_le : (e : ℕ) → back P T i e ≤ e
  unfolding back
  back_le zero = zero-le
  back_le (suc e) = bool_cases (at e) (λ y. rw y (omega (arith, back_le e))) (λ n. rw n zero-le)

  pub back_on : (e : ℕ) → at e ≡ true → back P T i (suc e) ≡ suc (back P T i e)
  unfolding back
  back_on e y = rw y

  pub back_off : (e : ℕ) → at e ≡ false → back P T i (suc e) ≡ 0
  unfolding back
  back_off e n = rw n

  -- its tests: one for each letter passed, and one for the letter that stopped it
  pub tests_back : (e : ℕ) → back_tests P T i e ≡ back P T i e + tally (ltb (back P T i e) e)
  unfolding back back_tests
  tests_back zero = refl
  tests_back (suc e) =
      bool_cases (at e)
      (λ y. rw (y, tests_back e, same (back P T i e)) (omega arith))
      (λ n. rw (n, lt-ltb 0 (suc e) (omega arith)))
    where
      same : (x : ℕ) → ltb (suc x) (suc e) ≡ ltb x e
      same x = leb-suc-suc (suc x) e

  pub back_tests_le : (e : ℕ) → back_tests P T i e ≤ e
  unfolding back_tests
  back_tests_le zero = zero-le
  back_tests_le (suc e) = bool_cases (at e) (λ y. rw y (omega (arith, back_tests_le e))) (λ n. rw n (omega arith))

  -- the last c letters before e meet exactly if the scan passes them
  pub met_back : (e c : ℕ) → c ≤ e → met P T i (e - c) c ≡ leb c (back P T i e)
  unfolding met
  met_back e zero l = sym (le-leb 0 (back P T i e) zero-le)
  met_back zero (suc c) l = absurd (omega arith)
  met_back (suc e) (suc c) l =
      let z : suc e - suc c ≡ e - c = omega arith in
      let w : e - c + c ≡ e = omega arith in
      rw z
      (met_snoc P T i (e - c) c
      ∙ rw w
      (bool_cases (at e)
      (λ y. rw (y, back_on e y) (and_yes (met P T i (e - c) c) ∙ met_back e c (omega arith) ∙ sym (leb-suc-suc c (back P T i e))))
      (λ n. rw (n, back_off e n) (and-false (met P T i (e - c) c) ∙ sym (lt-leb (suc c) 0 (omega arith))))))
    where
      and_yes : (b : Bool) → (b && true) ≡ b
      and_yes true = refl
      and_yes false = refl

-- a scan that has come to k
module _ (P T : List ℕ) (i k : ℕ) (l : 0 < k) where
  pub back_down : meets (get_or P (k - 1) 0) (get_or T (i + (k - 1)) 0) ≡ true → back P T i k ≡ suc (back P T i (k - 1))
  back_down y = let z : suc (k - 1) ≡ k = omega arith in rw z at (back_on P T i (k - 1) y)

  pub back_end : meets (get_or P (k - 1) 0) (get_or T (i + (k - 1)) 0) ≡ false → back P T i k ≡ 0
  back_end n = let z : suc (k - 1) ≡ k = omega arith in rw z at (back_off P T i (k - 1) n)

pub back_none : (P T : List ℕ) (i : ℕ) → back P T i 0 ≡ 0
unfolding back
back_none P T i = refl

pub singles_down : (T : List ℕ) (i e k : ℕ) → 0 < k → k ≤ e → all_single T (i + (k - 1)) (e - (k - 1)) ≡ (single (get_or T (i + (k - 1)) 0) && all_single T (i + k) (e - k))
singles_down T i e k l h =
    let z : e - (k - 1) ≡ suc (e - k) = omega arith in
    let y : suc (i + (k - 1)) ≡ i + k = omega arith in
    rw z (singles_cons T (i + (k - 1)) (e - k) ∙ rw y)
