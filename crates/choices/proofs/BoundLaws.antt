-- Bound-listed starts: the test is the meaning; each is a hit, and where all letters are single each hit is one; the list of them. Assumes nothing.
use mathlib.Core.Path.{◌≡◌, refl, sym, ap, ◌∙◌}
use mathlib.Core.Bool.{true, false}
use mathlib.Core.List.{List}
use Prim.Native.Nat.{ℕ, suc, ◌+◌, ◌-◌, ◌≤◌, ◌<◌}
use native.Mathlib.Omega.{arith}
use borrow.Author.Tests.{leb-true, le-leb, ne_eqb}
use lib.ListN.{length, get_or}
use Rattle.letters.specs.Letters.{single}
use Rattle.letters.proofs.Truth.{bool_cases, both_ways, and_true_l, and_true_r}
use Rattle.letters.proofs.LetterLaws.{member_digit, digit_member, some_meets, single_same}
use Rattle.hits.specs.Hits.{within, hit_at}
use Rattle.hits.specs.Scans.{reach}
use Rattle.hits.specs.Meaning.{Hit, Listed, Ascends}
use Rattle.hits.proofs.HitLaws.{no_hit_past}
use Rattle.hits.proofs.MarkLaws.{mark_hit}
use Rattle.hits.proofs.ScanLaws.{scan_hit}
use Rattle.hits.proofs.Meaning.{hit_test}
use Rattle.hits.proofs.StartLaws.{listed_means, means_listed, starts_ascend, only_starts}
use Rattle.choices.specs.Choices.{BoundHit, bound_at, bound_hits}
use Rattle.choices.specs.Candidates.{low_member}
use Rattle.choices.proofs.ChoiceLaws.{low_member_lem, some_chosen_lem, chosen_some}

module _ (P T : List ℕ) where
  -- a start passes the test exactly if it fits and there is a choice
  pub test_bound : (i : ℕ) → bound_at P T i ≡ true → BoundHit P T i
  unfolding bound_at
  test_bound i e =
      let w = some_chosen_lem P T i (λ f. true) (and_true_r (within P T i) _ e) in
      record { fits = leb-true _ _ (and_true_l (within P T i) _ e); choice = w.0; right = w.1 }

  pub bound_test : (i : ℕ) → BoundHit P T i → bound_at P T i ≡ true
  unfolding bound_at
  bound_test i h = rw (le-leb (i + length P) (length T) h.fits) (chosen_some P T i (λ f. true) h.choice h.right (λ g e. refl))

  -- each is a hit
  pub bound_hit : (i : ℕ) → BoundHit P T i → Hit P T i
  bound_hit i h =
      let f = h.choice in
      record {
        fits = h.fits;
        share = λ j l. (
          f (get_or P j 0),
          (
            member_digit (f (get_or P j 0)) (get_or P j 0) (h.right.above j l),
            member_digit (f (get_or P j 0)) (get_or T (i + j) 0) (rw (h.right.agree j l) (h.right.under j l)),
          ),
        );
      }

  pub no_hit_bound : (i : ℕ) → hit_at P T i ≡ false → bound_at P T i ≡ false
  no_hit_bound i e = bool_cases (bound_at P T i) (λ y. absurd (both_ways (hit_at P T i) (hit_test P T i (bound_hit i (test_bound i y))) e)) (λ n. n)

  -- nor is a start whose scan stopped short
  pub missed_bound : (i j : ℕ) → i + length P ≤ length T → j ≡ reach P T i 0 (length P - 0) → j < length P → bound_at P T i ≡ false
  missed_bound i j l e h =
      let z : length P - 0 ≡ length P = omega arith in
      let r : reach P T i 0 (length P) ≡ j = rw z at (sym e) in
      no_hit_bound i (sym (scan_hit P T i l) ∙ ne_eqb (reach P T i 0 (length P)) (length P) (λ q. omega arith))

  -- none lies over an entry mark
  pub mark_bound : (i j : ℕ) → j < length P → get_or T (i + j) 0 ≡ 0 → bound_at P T i ≡ false
  mark_bound i j l z = no_hit_bound i (mark_hit P T i j l z)

  -- where the letters are single, each hit is bound-listed
  pub single_bound : (i : ℕ) → ((j : ℕ) → j < length P → (single (get_or P j 0) ≡ true) × (single (get_or T (i + j) 0) ≡ true)) → Hit P T i → BoundHit P T i
  single_bound i s h =
      record {
        fits = h.fits;
        choice = low_member;
        right = record {
          above = λ j l. let w = h.share j l in low_member_lem (get_or P j 0) w.0 (digit_member w.0 (get_or P j 0) w.1.0);
          under = λ j l. let w = h.share j l in low_member_lem (get_or T (i + j) 0) w.0 (digit_member w.0 (get_or T (i + j) 0) w.1.1);
          agree = λ j l.
              let w = h.share j l in
              ap low_member
              (single_same (get_or P j 0) (get_or T (i + j) 0) (s j l).0 (s j l).1
              (some_meets (get_or P j 0) (get_or T (i + j) 0) w.0 (digit_member w.0 (get_or P j 0) w.1.0) (digit_member w.0 (get_or T (i + j) 0) w.1.1)));
        };
      }

  past : (i : ℕ) → BoundHit P T i → i < suc (length T)
  past i h = omega (arith, h.fits)

  -- a start is in the list exactly if it is bound-listed; the list ascends strictly, and is the only such list
  pub listed_bound : (i : ℕ) → Listed i (bound_hits P T) → BoundHit P T i
  unfolding bound_hits
  listed_bound = listed_means (bound_at P T) (BoundHit P T) (suc (length T)) test_bound bound_test past

  pub bound_listed : (i : ℕ) → BoundHit P T i → Listed i (bound_hits P T)
  unfolding bound_hits
  bound_listed = means_listed (bound_at P T) (BoundHit P T) (suc (length T)) test_bound bound_test past

  pub bound_ascend : Ascends (bound_hits P T)
  unfolding bound_hits
  bound_ascend = starts_ascend (bound_at P T) (suc (length T)) 0

  pub only_bound : (xs : List ℕ) → Ascends xs → ((i : ℕ) → Listed i xs → BoundHit P T i) → ((i : ℕ) → BoundHit P T i → Listed i xs) → xs ≡ bound_hits P T
  unfolding bound_hits
  only_bound = only_starts (bound_at P T) (BoundHit P T) (suc (length T)) test_bound bound_test past

  -- past n - m there is none
  pub no_bound_past : (i : ℕ) → length T < i + length P → bound_at P T i ≡ false
  no_bound_past i l = no_hit_bound i (no_hit_past P T i l)
