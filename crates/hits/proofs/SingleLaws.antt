-- Laws of stretches of single letters. Assumes nothing.
use mathlib.Core.Path.{◌≡◌, refl, sym, ◌∙◌}
use mathlib.Core.Bool.{Bool, true, false, ◌&&◌, and-false}
use mathlib.Core.Logic.{⊎_elim}
use mathlib.Core.List.{List}
use Prim.Native.Nat.{ℕ, zero, suc, ◌+◌, ◌≤◌, ◌<◌, zero-le}
use native.Mathlib.Nat.{eq-or-lt_of_le, le_of_suc-le-suc}
use native.Mathlib.Numerals.{add-one}
use native.Mathlib.Omega.{arith}
use borrow.Author.Tests.{leb-true, leb-false, le-leb, lt-leb}
use lib.Dec.{leb}
use lib.ListN.{get_or}
use Rattle.letters.proofs.Truth.{bool_cases, and_true_l, and_true_r}
use Rattle.letters.specs.Letters.{single}
use Rattle.hits.specs.Singles.{all_single, not_single_below}

module _ (T : List ℕ) where
  pub singles_at : (a c j : ℕ) → all_single T a c ≡ true → a ≤ j → j < a + c → single (get_or T j 0) ≡ true
  unfolding all_single
  singles_at a zero j e l k = absurd (omega arith)
  singles_at a (suc c) j e l k =
      ⊎_elim
      (λ (q : j ≡ a + c). rw q (and_true_r (all_single T a c) _ e))
      (λ (q : j < a + c). singles_at a c j (and_true_l _ (single (get_or T (a + c) 0)) e) l q)
      (eq-or-lt_of_le (below (omega arith)))
    where
      below : j ≤ a + c → j ≤ a + c
      below x = x

  pub below_le : (e : ℕ) → not_single_below T e ≤ e
  unfolding not_single_below
  below_le zero = zero-le
  below_le (suc e) = bool_cases (single (get_or T e 0)) (λ y. rw y (omega (arith, below_le e))) (λ n. rw n (omega arith))

  pub below_past : (e : ℕ) → single (get_or T e 0) ≡ true → not_single_below T (suc e) ≡ not_single_below T e
  unfolding not_single_below
  below_past e y = rw y

  pub below_here : (e : ℕ) → single (get_or T e 0) ≡ false → not_single_below T (suc e) ≡ suc e
  unfolding not_single_below
  below_here e y = rw y

  -- a stretch is all_single exactly if the last letter that is not single stands before it
  pub singles_below : (a c : ℕ) → all_single T a c ≡ leb (not_single_below T (a + c)) a
  unfolding all_single
  singles_below a zero = let z : a + 0 ≡ a = omega arith in rw z (sym (le-leb _ _ (below_le a)))
  singles_below a (suc c) =
      let z : a + suc c ≡ suc (a + c) = omega arith in
      rw z
      (bool_cases (single (get_or T (a + c) 0))
      (λ y. rw (y, below_past (a + c) y) (and_yes _ ∙ singles_below a c))
      (λ n. rw (n, below_here (a + c) n) (and_no (all_single T a c) ∙ sym (lt-leb (suc (a + c)) a (omega arith)))))
    where
      and_yes : (b : Bool) → (b && true) ≡ b
      and_yes true = refl
      and_yes false = refl

      and_no : (b : Bool) → (b && false) ≡ false
      and_no true = refl
      and_no false = refl

module _ (T : List ℕ) (a : ℕ) where
  pub singles_none : all_single T a 0 ≡ true
  unfolding all_single
  singles_none = refl

  pub singles_more : (c : ℕ) → all_single T a c ≡ true → single (get_or T (a + c) 0) ≡ true → all_single T a (c + 1) ≡ true
  unfolding all_single
  singles_more c x y = rw (add-one c, x, y)

  pub singles_fail : (c j : ℕ) → j < c → single (get_or T (a + j) 0) ≡ false → all_single T a c ≡ false
  unfolding all_single
  singles_fail zero j l e = absurd (omega arith)
  singles_fail (suc c) j l e =
      ⊎_elim
      (λ (q : j ≡ c). rw (← q, e) (and-false (all_single T a j)))
      (λ (q : j < c). rw (singles_fail c j q e))
      (eq-or-lt_of_le (le_of_suc-le-suc l))

  pub singles_short : (c d : ℕ) → all_single T a c ≡ true → d ≤ c → all_single T a d ≡ true
  unfolding all_single
  singles_short zero d e l = let z : d ≡ 0 = omega arith in rw z
  singles_short (suc c) d e l =
      ⊎_elim
      (λ (q : d ≡ suc c). rw q e)
      (λ (q : d < suc c). singles_short c d (and_true_l (all_single T a c) _ e) (omega arith))
      (eq-or-lt_of_le l)

  -- a stretch is all_single exactly if it ends no later than the first letter that is not single, or the last letter that was looked at
  pub singles_upto : (c m : ℕ) → all_single T a c ≡ true → (c < m → single (get_or T (a + c) 0) ≡ false) → (h : ℕ) → h ≤ m → all_single T a h ≡ leb h c
  singles_upto c m e stop h l =
      bool_cases (leb h c)
      (λ y. singles_short c h e (leb-true _ _ y) ∙ sym y)
      (λ n. let k : c < h = leb-false _ _ n in singles_fail h c k (stop (omega arith)) ∙ sym n)

module _ (T : List ℕ) where
  -- a part of a all_single stretch
  pub singles_part : (a c b d : ℕ) → all_single T a c ≡ true → a ≤ b → b + d ≤ a + c → all_single T b d ≡ true
  unfolding all_single
  singles_part a c b zero e l k = refl
  singles_part a c b (suc d) e l k = rw (singles_part a c b d e l (omega arith), singles_at T a c (b + d) e (omega arith) (omega arith))

  -- one letter more on the left
  pub singles_cons : (a c : ℕ) → all_single T a (suc c) ≡ (single (get_or T a 0) && all_single T (suc a) c)
  unfolding all_single
  singles_cons a zero = let z : a + 0 ≡ a = omega arith in rw z (yes (single (get_or T a 0)))
    where
      yes : (b : Bool) → (true && b) ≡ (b && true)
      yes true = refl
      yes false = refl
  singles_cons a (suc c) = let z : a + suc c ≡ suc a + c = omega arith in rw (singles_cons a c, z) (assoc (single (get_or T a 0)) _ _)
    where
      assoc : (x y w : Bool) → ((x && y) && w) ≡ (x && (y && w))
      assoc true y w = refl
      assoc false y w = refl
