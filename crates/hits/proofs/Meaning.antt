-- The list of hits, for a reader: a start is in it exactly if it is a hit, it ascends strictly, and it is the only such list. Assumes nothing.
use mathlib.Core.Path.{◌≡◌, ◌∙◌}
use mathlib.Core.Bool.{true}
use mathlib.Core.List.{List}
use Prim.Native.Nat.{ℕ, suc, ◌+◌, ◌<◌}
use native.Mathlib.Omega.{arith}
use lib.ListN.{length, get_or}
use Rattle.letters.proofs.LetterLaws.{meets_some, some_meets, member_digit, digit_member}
use Rattle.hits.specs.Hits.{hit_at, hits}
use Rattle.hits.specs.Meaning.{Hit, Listed, Ascends}
use Rattle.hits.proofs.HitLaws.{hit_is, hit_fits, hit_met}
use Rattle.hits.proofs.MetLaws.{met_at, met_all}
use Rattle.hits.proofs.StartLaws.{listed_means, means_listed, starts_ascend, only_starts}

module _ (P T : List ℕ) where
  -- the test is the meaning
  pub test_hit : (i : ℕ) → hit_at P T i ≡ true → Hit P T i
  test_hit i e =
      record {
        fits = hit_fits P T i e;
        share = λ j l.
            let w = meets_some (get_or P j 0) (get_or T (i + j) 0) (met_at P T i 0 (length P) j (hit_met P T i e) (omega arith) (omega arith)) in
            (w.0, (member_digit w.0 (get_or P j 0) w.1, member_digit w.0 (get_or T (i + j) 0) w.2));
      }

  pub hit_test : (i : ℕ) → Hit P T i → hit_at P T i ≡ true
  hit_test i h =
      hit_is P T i h.fits
      ∙ met_all P T i 0 (length P)
      (λ j z u.
      let w = h.share j (omega arith) in
      some_meets (get_or P j 0) (get_or T (i + j) 0) w.0 (digit_member w.0 (get_or P j 0) w.1.0) (digit_member w.0 (get_or T (i + j) 0) w.1.1))

  past : (i : ℕ) → Hit P T i → i < suc (length T)
  past i h = omega (arith, h.fits)

  -- a start is listed exactly if it is a hit
  pub listed_hit : (i : ℕ) → Listed i (hits P T) → Hit P T i
  unfolding hits
  listed_hit = listed_means (hit_at P T) (Hit P T) (suc (length T)) test_hit hit_test past

  pub hit_listed : (i : ℕ) → Hit P T i → Listed i (hits P T)
  unfolding hits
  hit_listed = means_listed (hit_at P T) (Hit P T) (suc (length T)) test_hit hit_test past

  -- the list ascends strictly
  pub hits_ascend : Ascends (hits P T)
  unfolding hits
  hits_ascend = starts_ascend (hit_at P T) (suc (length T)) 0

  -- so the list of hits is the only ascending list of exactly the hits
  pub only_hits : (xs : List ℕ) → Ascends xs → ((i : ℕ) → Listed i xs → Hit P T i) → ((i : ℕ) → Hit P T i → Listed i xs) → xs ≡ hits P T
  unfolding hits
  only_hits = only_starts (hit_at P T) (Hit P T) (suc (length T)) test_hit hit_test past
