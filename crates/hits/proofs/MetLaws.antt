-- The family of `met`: a stretch of a pattern that meets the text under it. Assumes nothing.
--
-- There is no law of transitivity: where one is wanted, the letter in the middle is single (`single_same`).
use mathlib.Core.Path.{◌≡◌, refl}
use mathlib.Core.Bool.{Bool, true, false, ◌&&◌, and-false}
use mathlib.Core.List.{List}
use mathlib.Core.Logic.{⊎_elim}
use Prim.Native.Nat.{ℕ, zero, suc, ◌+◌, ◌≤◌, ◌<◌}
use native.Mathlib.Nat.{eq-or-lt_of_le, zero-add}
use native.Mathlib.Numerals.{add-one}
use native.Mathlib.Omega.{arith}
use lib.ListN.{get_or}
use Rattle.letters.specs.Letters.{meets}
use Rattle.letters.proofs.Truth.{bool_cases, and_true_l, and_true_r, and_yes}
use Rattle.hits.specs.Hits.{met}

module _ (P T : List ℕ) (i : ℕ) where
  -- letter j of P meets the text under it
  abbrev pub meets_at : ℕ → Bool
  meets_at j = meets (get_or P j 0) (get_or T (i + j) 0)

  -- nothing to show
  pub met_none : (a : ℕ) → met P T i a 0 ≡ true
  unfolding met
  met_none a = refl

  -- one letter more at the end
  pub met_snoc : (a c : ℕ) → met P T i a (suc c) ≡ (met P T i a c && meets_at (a + c))
  unfolding met
  met_snoc a zero = let z : a + 0 ≡ a = omega arith in rw z (and_yes (meets_at a))
  met_snoc a (suc c) =
      let z : a + suc c ≡ suc a + c = omega arith in
      bool_cases (meets_at a) (λ e. rw (e, z) (met_snoc (suc a) c)) (λ e. rw e)

  -- each letter
  pub met_at : (a c j : ℕ) → met P T i a c ≡ true → a ≤ j → j < a + c → meets_at j ≡ true
  unfolding met
  met_at a zero j e l k = absurd (omega arith)
  met_at a (suc c) j e l k =
      ⊎_elim
      (λ (q : a ≡ j). rw (← q) (and_true_l (meets_at a) _ e))
      (λ (q : a < j). met_at (suc a) c j (and_true_r (meets_at a) _ e) q (omega arith))
      (eq-or-lt_of_le l)

  -- from each letter
  pub met_all : (a c : ℕ) → ((j : ℕ) → a ≤ j → j < a + c → meets_at j ≡ true) → met P T i a c ≡ true
  unfolding met
  met_all a zero f = refl
  met_all a (suc c) f = rw (f a (omega arith) (omega arith)) (met_all (suc a) c (λ j l k. f j (omega arith) (omega arith)))

  -- one letter that does not meet
  pub met_fail : (a c j : ℕ) → a ≤ j → j < a + c → meets_at j ≡ false → met P T i a c ≡ false
  unfolding met
  met_fail a zero j l k b = absurd (omega arith)
  met_fail a (suc c) j l k b =
      ⊎_elim
      (λ (q : a ≡ j). rw (q, b))
      (λ (q : a < j). rw (met_fail (suc a) c j q (omega arith) b) (and-false (meets_at a)))
      (eq-or-lt_of_le l)

  -- The same of the first letters, by their number
  pub met_on : (j : ℕ) → met P T i 0 j ≡ true → meets_at j ≡ true → met P T i 0 (j + 1) ≡ true
  met_on j a b = rw (add-one j, met_snoc 0 j, a, zero-add j, b)

  pub met_last : (j : ℕ) → met P T i 0 (suc j) ≡ (met P T i 0 j && meets_at j)
  met_last j = rw (met_snoc 0 j, zero-add j)

  -- fewer letters
  pub met_less : (h k : ℕ) → met P T i 0 h ≡ true → k ≤ h → met P T i 0 k ≡ true
  met_less h k e l = met_all 0 k (λ j m n. met_at 0 h j e (omega arith) (omega arith))

  -- a stretch that does not meet spoils all first letters that have it
  pub met_miss : (a c h : ℕ) → met P T i a c ≡ false → a + c ≤ h → met P T i 0 h ≡ false
  unfolding met
  met_miss a zero h e l = let z : true ≡ false = e in cc
  met_miss a (suc c) h e l =
      bool_cases (meets_at a)
      (λ y. met_miss (suc a) c h (rw y at e) (omega arith))
      (λ n. met_fail 0 h a (omega arith) (omega arith) n)

-- a stretch looks only at the letters under it
pub met_same : (P T U : List ℕ) (i k a c : ℕ) → ((j : ℕ) → a ≤ j → j < a + c → get_or T (i + j) 0 ≡ get_or U (k + j) 0) → met P T i a c ≡ met P U k a c
unfolding met
met_same P T U i k a zero h = refl
met_same P T U i k a (suc c) h = rw (h a (omega arith) (omega arith), met_same P T U i k (suc a) c (λ j l m. h j (omega arith) (omega arith)))
