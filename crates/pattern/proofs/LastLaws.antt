-- Laws of R: the greatest index whose letter meets c, held as one more, and 0 for none. Assumes nothing.
use mathlib.Core.Path.{◌≡◌, refl, sym, ap, ◌∙◌}
use mathlib.Core.Bool.{true, false}
use mathlib.Core.Logic.{⊎_elim}
use mathlib.Core.List.{List}
use Prim.Native.Nat.{ℕ, zero, suc, ◌-◌, ◌≤◌, ◌<◌, zero-le}
use native.Mathlib.Nat.{eq-or-lt_of_le, le_of_suc-le-suc}
use native.Mathlib.Omega.{arith}
use lib.ListN.{length, get_or}
use Rattle.letters.specs.Letters.{meets}
use Rattle.letters.proofs.LetterLaws.{none_meets}
use Rattle.letters.proofs.Truth.{bool_cases}
use Rattle.pattern.specs.Last.{last_in, after_r}

module _ (P : List ℕ) (c : ℕ) where
  pub last_start : last_in P c 0 ≡ 0
  unfolding last_in
  last_start = refl

  pub last_yes : (h : ℕ) → meets (get_or P h 0) c ≡ true → last_in P c (suc h) ≡ suc h
  unfolding last_in
  last_yes h e = rw e

  pub last_no : (h : ℕ) → meets (get_or P h 0) c ≡ false → last_in P c (suc h) ≡ last_in P c h
  unfolding last_in
  last_no h e = rw e

  pub last_le : (h : ℕ) → last_in P c h ≤ h
  unfolding last_in
  last_le zero = zero-le
  last_le (suc h) = bool_cases (meets (get_or P h 0) c) (λ e. rw e (omega arith)) (λ e. rw e (omega (arith, last_le h)))

  -- the letter there meets c
  pub last_has : (h j : ℕ) → last_in P c h ≡ suc j → meets (get_or P j 0) c ≡ true
  last_has zero j e = absurd (let z = last_start in omega arith)
  last_has (suc h) j e =
      bool_cases (meets (get_or P h 0) c)
      (λ y. let z : h ≡ j = (let w = last_yes h y in omega arith) in rw z at y)
      (λ n. last_has h j (sym (last_no h n) ∙ e))

  -- no letter from there on meets c
  pub last_above : (h j : ℕ) → last_in P c h ≤ j → j < h → meets (get_or P j 0) c ≡ false
  last_above zero j l k = absurd (omega arith)
  last_above (suc h) j l k =
      bool_cases (meets (get_or P h 0) c)
      (λ e. absurd (let z = last_yes h e in omega arith))
      (λ e. let z = last_no h e in ⊎_elim (λ (q : j ≡ h). rw q e) (λ (q : j < h). last_above h j (omega arith) q) (eq-or-lt_of_le (le_of_suc-le-suc k)))

  -- The meaning of R(c) + 1: it is j + 1 exactly if P[j] meets c and no letter above does
  pub r_at : (j : ℕ) → after_r P c ≡ suc j → (j < length P) × (meets (get_or P j 0) c ≡ true) × ((i : ℕ) → j < i → i < length P → meets (get_or P i 0) c ≡ false)
  unfolding after_r
  r_at j e = (omega (arith, last_le (length P)), last_has (length P) j e, λ i l k. last_above (length P) i (omega arith) k)

  pub at_r : (j : ℕ) → j < length P → meets (get_or P j 0) c ≡ true → ((i : ℕ) → j < i → i < length P → meets (get_or P i 0) c ≡ false) → after_r P c ≡ suc j
  unfolding after_r
  at_r j l y none = go (length P) l none
    where
      go : (h : ℕ) → j < h → ((i : ℕ) → j < i → i < h → meets (get_or P i 0) c ≡ false) → last_in P c h ≡ suc j
      go zero k f = absurd (omega arith)
      go (suc h) k f =
          ⊎_elim
          (λ (q : j ≡ h). last_yes h (rw q at y) ∙ ap suc (sym q))
          (λ (q : j < h). last_no h (f h q (omega arith)) ∙ go h q (λ i u v. f i u (omega arith)))
          (eq-or-lt_of_le (le_of_suc-le-suc k))

  -- and 0 exactly if none meets
  pub r_none : after_r P c ≡ 0 → (i : ℕ) → i < length P → meets (get_or P i 0) c ≡ false
  unfolding after_r
  r_none e i l = last_above (length P) i (omega arith) l

  pub none_r : ((i : ℕ) → i < length P → meets (get_or P i 0) c ≡ false) → after_r P c ≡ 0
  unfolding after_r
  none_r f = go (length P) f
    where
      go : (h : ℕ) → ((i : ℕ) → i < h → meets (get_or P i 0) c ≡ false) → last_in P c h ≡ 0
      go zero f = last_start
      go (suc h) f = last_no h (f h (omega arith)) ∙ go h (λ i l. f i (omega arith))

  pub r_le : after_r P c ≤ length P
  unfolding after_r
  r_le = last_le (length P)

-- an entry mark has none
pub r_mark : (P : List ℕ) → after_r P 0 ≡ 0
r_mark P = none_r P 0 (λ i l. none_meets (get_or P i 0))

-- A walk from the right end that has come to where h letters are left: none that it passed meets c, so they have the last that does
pub record CameDown (P : List ℕ) (c h : ℕ) : Type 0 where
  pub same : after_r P c ≡ last_in P c h

pub down_start : (P : List ℕ) (c : ℕ) → CameDown P c (length P - 0)
unfolding after_r
down_start P c = let z : length P - 0 ≡ length P = omega arith in record { same = rw z }

module _ {P : List ℕ} {c h : ℕ} (w : CameDown P c h) where
  module _ (some : 0 < h) where
    pub down_here : meets (get_or P (h - 1) 0) c ≡ true → h ≡ after_r P c
    down_here y = let z : suc (h - 1) ≡ h = omega arith in sym (w.same ∙ rw z at (last_yes P c (h - 1) y))

    pub down_on : meets (get_or P (h - 1) 0) c ≡ false → (x : ℕ) → x ≡ h - 1 → CameDown P c x
    down_on n x e = let z : suc (h - 1) ≡ h = omega arith in record { same = rw e (w.same ∙ rw z at (last_no P c (h - 1) n)) }

  pub down_end : h ≡ 0 → 0 ≡ after_r P c
  down_end z = sym (w.same ∙ ap (last_in P c) z ∙ last_start P c)
