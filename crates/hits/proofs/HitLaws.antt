-- Laws of hits, and of the hits among some starts. Assumes nothing.
use mathlib.Core.Path.{◌≡◌, refl, sym, ap, ◌∙◌}
use mathlib.Core.Bool.{true, false, and-false}
use mathlib.Core.List.{List, [], ◌++◌}
use Prim.Native.Nat.{ℕ, zero, suc, ◌+◌, ◌≤◌, ◌<◌}
use native.Mathlib.Omega.{arith}
use borrow.Author.Tests.{lt-leb, le-leb, leb-true}
use lib.Dec.{leb}
use lib.ListN.{length}
use Rattle.letters.specs.Members.{keep}
use Rattle.letters.proofs.Truth.{and_true_l, and_true_r}
use Rattle.hits.specs.Hits.{met, hit_at, starts_from, hits_from, hits}
use Rattle.hits.proofs.MetLaws.{meets_at, met_fail}
use Rattle.hits.proofs.StartLaws.{none_starts, starts_add, length_starts}

module _ (P T : List ℕ) (i : ℕ) where
  -- a start that fits is a hit exactly if all letters meet
  pub hit_is : i + length P ≤ length T → hit_at P T i ≡ met P T i 0 (length P)
  unfolding hit_at
  hit_is l = rw (le-leb (i + length P) (length T) l)

  pub hit_fits : hit_at P T i ≡ true → i + length P ≤ length T
  unfolding hit_at
  hit_fits e = leb-true _ _ (and_true_l (leb (i + length P) (length T)) _ e)

  pub hit_met : hit_at P T i ≡ true → met P T i 0 (length P) ≡ true
  unfolding hit_at
  hit_met e = and_true_r (leb (i + length P) (length T)) _ e

  -- a letter that does not meet: no hit
  pub no_hit : (j : ℕ) → j < length P → meets_at P T i j ≡ false → hit_at P T i ≡ false
  unfolding hit_at
  no_hit j l b = rw (met_fail P T i 0 (length P) j (omega arith) (omega arith) b) (and-false (leb (i + length P) (length T)))

module _ (P T : List ℕ) where
  -- no hit starts past n - m
  pub no_hit_past : (a : ℕ) → length T < a + length P → hit_at P T a ≡ false
  unfolding hit_at
  no_hit_past a h = rw (lt-leb (a + length P) (length T) h)

  -- starts that are no hits give none
  pub none_from : (c a : ℕ) → ((i : ℕ) → a ≤ i → i < a + c → hit_at P T i ≡ false) → hits_from P T c a ≡ []
  none_from = none_starts (hit_at P T)

  pub past_from : (c a : ℕ) → length T < a + length P → hits_from P T c a ≡ []
  past_from c a h = none_from c a (λ i l k. no_hit_past i (omega arith))

  -- a start that is tested, and starts after it that are no hits
  pub one_from : (c a : ℕ) → ((i : ℕ) → a < i → i < a + suc c → hit_at P T i ≡ false) → hits_from P T (suc c) a ≡ keep (hit_at P T a) a []
  unfolding starts_from
  one_from c a h = ap (keep (hit_at P T a) a) (none_from c (suc a) (λ i l k. h i (omega arith) (omega arith)))

  -- c + d starts are c starts and then d
  pub from_add : (c d a : ℕ) → hits_from P T (c + d) a ≡ hits_from P T c a ++ hits_from P T d (a + c)
  from_add = starts_add (hit_at P T)

  -- past the text's end nothing is added
  pub from_enough : (c d a : ℕ) → length T < c + a → length T < d + a → hits_from P T c a ≡ hits_from P T d a
  unfolding starts_from
  from_enough zero d a h k = sym (past_from d a (omega arith))
  from_enough (suc c) zero a h k = past_from (suc c) a (omega arith)
  from_enough (suc c) (suc d) a h k = rw (from_enough c d (suc a) (omega arith) (omega arith))

  pub length_from : (c a : ℕ) → length (hits_from P T c a) ≤ c
  length_from = length_starts (hit_at P T)

  pub length_hits : length (hits P T) ≤ suc (length T)
  unfolding hits
  length_hits = length_from (suc (length T)) 0

  -- a pattern longer than the text has none
  pub too_long : length T < length P → hits P T ≡ []
  unfolding hits
  too_long l = past_from (suc (length T)) 0 (omega arith)

  -- the hits from a on
  unfoldable pub rest : ℕ → List ℕ
  rest a = hits_from P T (suc (length T)) a

  pub rest_split : (c a : ℕ) → rest a ≡ hits_from P T c a ++ rest (a + c)
  unfolding rest
  rest_split c a = from_enough (suc (length T)) (c + suc (length T)) a (omega arith) (omega arith) ∙ from_add c (suc (length T)) a

  pub rest_past : (a : ℕ) → length T < a + length P → rest a ≡ []
  unfolding rest
  rest_past a l = past_from (suc (length T)) a l

  pub rest_all : rest 0 ≡ hits P T
  unfolding rest hits
  rest_all = refl
