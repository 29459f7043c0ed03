-- Entries are searched each by itself: a text of two entries with the mark between them has the hits of the one and, moved up, those of the other. Assumes nothing.
use mathlib.Core.Path.{◌≡◌, refl, sym, ap, ap₂, ◌∙◌}
use mathlib.Core.Bool.{Bool, true, false}
use mathlib.Core.List.{List, [], ◌∷◌, ◌++◌, map}
use Prim.Native.Nat.{ℕ, zero, suc, ◌+◌, ◌-◌, ◌≤◌, ◌<◌}
use native.Mathlib.Omega.{arith}
use borrow.Author.Tests.{leb-true, leb-false}
use lib.Dec.{leb}
use lib.ListN.{length, get_or, length-append, get_or-append}
use lib.Seq.{get_or-append_seam, get_or-append-add}
use Rattle.letters.specs.Letters.{meets}
use Rattle.letters.specs.Members.{keep}
use Rattle.letters.proofs.LetterLaws.{none_meets}
use Rattle.letters.proofs.Truth.{bool_cases}
use Rattle.hits.specs.Hits.{hit_at, starts_from, hits_from, hits}
use Rattle.hits.proofs.MetLaws.{met_same}
use Rattle.hits.proofs.HitLaws.{hit_is, no_hit, no_hit_past, from_add}

module _ (P T : List ℕ) (i : ℕ) where
  -- no hit lies over a mark
  pub mark_hit : (j : ℕ) → j < length P → get_or T (i + j) 0 ≡ 0 → hit_at P T i ≡ false
  mark_hit j l z = no_hit P T i j l (ap (meets (get_or P j 0)) z ∙ none_meets (get_or P j 0))

-- starts that are hits of both texts, or of neither, moved up by d
from_moved : (P T U : List ℕ) (d c a : ℕ) → ((i : ℕ) → a ≤ i → i < a + c → hit_at P T (d + i) ≡ hit_at P U i) → hits_from P T c (d + a) ≡ map (λ i. d + i) (hits_from P U c a)
unfolding starts_from
from_moved P T U d zero a h = refl
from_moved P T U d (suc c) a h =
    let z : suc (d + a) ≡ d + suc a = omega arith in
    rw (z, h a (omega arith) (omega arith), from_moved P T U d c (suc a) (λ i l k. h i (omega arith) (omega arith))) (kept (hit_at P U a) (hits_from P U c (suc a)))
  where
    kept : (b : Bool) (xs : List ℕ) → keep b (d + a) (map (λ i. d + i) xs) ≡ map (λ i. d + i) (keep b a xs)
    kept true xs = refl
    kept false xs = refl

module _ (P E F : List ℕ) where
  abbrev joined : List ℕ
  joined = E ++ (0 ∷ F)

  size : length joined ≡ suc (length E) + length F
  size = let l = length-append E (0 ∷ F) in omega arith

  -- in the first entry
  before : (i : ℕ) → i ≤ length E → hit_at P joined (0 + i) ≡ hit_at P E i
  before i l =
      let z : 0 + i ≡ i = omega arith in
      let s = size in
      rw z
      (bool_cases (leb (i + length P) (length E))
      (λ y. let k : i + length P ≤ length E = leb-true _ _ y in
      hit_is P joined i (omega arith)
      ∙ met_same P joined E i i 0 (length P) (λ j a b. get_or-append E (0 ∷ F) 0 (i + j) (omega arith))
      ∙ sym (hit_is P E i k))
      (λ n. let k : length E < i + length P = leb-false _ _ n in
      let q : i + (length E - i) ≡ length E = omega arith in
      mark_hit P joined i (length E - i) (omega arith) (ap (λ (j : ℕ). get_or joined j 0) q ∙ get_or-append_seam E 0 F 0) ∙ sym (no_hit_past P E i k)))

  -- behind the mark
  behind : (i : ℕ) → hit_at P joined (suc (length E) + i) ≡ hit_at P F i
  behind i =
      let s = size in
      bool_cases (leb (i + length P) (length F))
      (λ y. let k : i + length P ≤ length F = leb-true _ _ y in
      hit_is P joined (suc (length E) + i) (omega arith)
      ∙ met_same P joined F (suc (length E) + i) i 0 (length P) (λ j a b. under j)
      ∙ sym (hit_is P F i k))
      (λ n. let k : length F < i + length P = leb-false _ _ n in
      no_hit_past P joined (suc (length E) + i) (omega arith) ∙ sym (no_hit_past P F i k))
    where
      under : (j : ℕ) → get_or joined (suc (length E) + i + j) 0 ≡ get_or F (i + j) 0
      under j =
          let q : suc (length E) + i + j ≡ length E + suc (i + j) = omega arith in
          ap (λ (x : ℕ). get_or joined x 0) q ∙ get_or-append-add E (0 ∷ F) (suc (i + j)) 0

  -- the hits of the first entry, then those of what follows the mark, moved up behind it
  pub entries_apart : hits P (E ++ (0 ∷ F)) ≡ hits P E ++ map (λ i. suc (length E) + i) (hits P F)
  unfolding hits
  entries_apart =
      let s = size in
      let z : suc (length joined) ≡ suc (length E) + suc (length F) = omega arith in
      let a : 0 + suc (length E) ≡ suc (length E) + 0 = omega arith in
      ap (λ (c : ℕ). hits_from P joined c 0) z
      ∙ from_add P joined (suc (length E)) (suc (length F)) 0
      ∙ ap₂ (λ (xs ys : List ℕ). xs ++ ys)
      (from_moved P joined E 0 (suc (length E)) 0 (λ i l k. before i (omega arith)) ∙ unmoved (hits_from P E (suc (length E)) 0))
      (ap (hits_from P joined (suc (length F))) a ∙ from_moved P joined F (suc (length E)) (suc (length F)) 0 (λ i l k. behind i))
    where
      unmoved : (xs : List ℕ) → map (λ i. 0 + i) xs ≡ xs
      unmoved [] = refl
      unmoved (x ∷ xs) = let z : 0 + x ≡ x = omega arith in ap₂ (λ (y : ℕ) (ys : List ℕ). y ∷ ys) z (unmoved xs)
