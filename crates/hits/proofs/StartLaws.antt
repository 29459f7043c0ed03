-- A list of starts, for any test on starts: who is in it, that it ascends, that it is the only such list; its parts; and a loop that notes it. Assumes nothing.
use mathlib.Core.Path.{◌≡◌, refl, sym, ap, ap₂, ◌∙◌}
use mathlib.Core.Bool.{Bool, true, false}
use mathlib.Core.List.{List, [], ◌∷◌, ◌++◌, append-nil}
use mathlib.Core.Logic.{◌⊎◌, inl, inr, ⊎_elim}
use Prim.Native.Nat.{ℕ, zero, suc, ◌+◌, ◌-◌, ◌≤◌, ◌<◌, zero-le}
use native.Mathlib.Nat.{eq-or-lt_of_le, add-suc, suc-add, zero-add, add-zero, le_refl}
use native.Mathlib.Omega.{arith}
use lib.ListN.{length, length-append}
use Rattle.letters.specs.Members.{keep}
use Rattle.letters.proofs.Truth.{both_ways}
use Rattle.lent.specs.Over.{over}
use Rattle.hits.specs.Hits.{starts_from}
use Rattle.hits.specs.Counts.{tally, noted, noted_all}
use Rattle.hits.specs.Meaning.{Listed, Ascends}
use Rattle.hits.proofs.ListLaws.{noted_over, noted_keep, tally_keep}

listed_keep : (b : Bool) (i a : ℕ) (xs : List ℕ) → Listed i (keep b a xs) → ((b ≡ true) × (i ≡ a)) ⊎ Listed i xs
unfolding Listed
listed_keep true i a xs (inl q) = inl (refl, q)
listed_keep true i a xs (inr q) = inr q
listed_keep false i a xs q = inr q

keep_first : (b : Bool) (i a : ℕ) (xs : List ℕ) → b ≡ true → i ≡ a → Listed i (keep b a xs)
unfolding Listed
keep_first true i a xs e q = inl q
keep_first false i a xs e q = absurd (both_ways false e refl)

keep_later : (b : Bool) (i a : ℕ) (xs : List ℕ) → Listed i xs → Listed i (keep b a xs)
unfolding Listed
keep_later true i a xs q = inr q
keep_later false i a xs q = q

keep_ascends : (b : Bool) (a : ℕ) (xs : List ℕ) → ((i : ℕ) → Listed i xs → a < i) → Ascends xs → Ascends (keep b a xs)
unfolding Ascends
keep_ascends true a xs f q = (f, q)
keep_ascends false a xs f q = q

keep_append : (b : Bool) (a : ℕ) (xs ys : List ℕ) → keep b a (xs ++ ys) ≡ keep b a xs ++ ys
keep_append true a xs ys = refl
keep_append false a xs ys = refl

length_keep : (b : Bool) (a : ℕ) (xs : List ℕ) → length (keep b a xs) ≤ suc (length xs)
length_keep true a xs = le_refl _
length_keep false a xs = omega arith

-- two ascending lists of the same elements are one list
pub one_list : (xs ys : List ℕ) → Ascends xs → Ascends ys → ((i : ℕ) → Listed i xs → Listed i ys) → ((i : ℕ) → Listed i ys → Listed i xs) → xs ≡ ys
unfolding Ascends Listed
one_list [] [] a b f g = refl
one_list [] (y ∷ ys) a b f g = absurd (g y (inl refl))
one_list (x ∷ xs) [] a b f g = absurd (f x (inl refl))
one_list (x ∷ xs) (y ∷ ys) a b f g = ap₂ (λ (z : ℕ) (zs : List ℕ). z ∷ zs) head (one_list xs ys a.1 b.1 forth back)
  where
    head : x ≡ y
    head =
        ⊎_elim (λ (p : x ≡ y). p)
        (λ (p : Listed x ys). ⊎_elim (λ (q : y ≡ x). sym q) (λ (q : Listed y xs). absurd (omega (arith, b.0 x p, a.0 y q))) (g y (inl refl)))
        (f x (inl refl))

    forth : (i : ℕ) → Listed i xs → Listed i ys
    forth i p = ⊎_elim (λ (q : i ≡ y). absurd (let h = head in omega (arith, a.0 i p))) (λ q. q) (f i (inr p))

    back : (i : ℕ) → Listed i ys → Listed i xs
    back i p = ⊎_elim (λ (q : i ≡ x). absurd (let h = head in omega (arith, b.0 i p))) (λ q. q) (g i (inr p))

module _ (b : ℕ → Bool) where
  -- what is listed from a on
  listed_from : (c a i : ℕ) → Listed i (starts_from b c a) → (b i ≡ true) × (a ≤ i)
  unfolding starts_from Listed
  listed_from zero a i q = absurd q
  listed_from (suc c) a i q =
      ⊎_elim
      (λ w. (ap b w.1 ∙ w.0, omega (arith, w.1)))
      (λ r. let w = listed_from c (suc a) i r in (w.0, omega (arith, w.1)))
      (listed_keep (b a) i a (starts_from b c (suc a)) q)

  from_listed : (c a i : ℕ) → b i ≡ true → a ≤ i → i < a + c → Listed i (starts_from b c a)
  unfolding starts_from
  from_listed zero a i e l k = absurd (omega arith)
  from_listed (suc c) a i e l k =
      ⊎_elim
      (λ (q : a ≡ i). keep_first (b a) i a (starts_from b c (suc a)) (ap b q ∙ e) (sym q))
      (λ (q : a < i). keep_later (b a) i a (starts_from b c (suc a)) (from_listed c (suc a) i e q (omega arith)))
      (eq-or-lt_of_le l)

  -- it ascends strictly
  pub starts_ascend : (c a : ℕ) → Ascends (starts_from b c a)
  unfolding starts_from Ascends
  starts_ascend zero a = tt
  starts_ascend (suc c) a =
      keep_ascends (b a) a (starts_from b c (suc a)) (λ i q. omega (arith, (listed_from c (suc a) i q).1)) (starts_ascend c (suc a))

  -- starts that do not pass give none
  pub none_starts : (c a : ℕ) → ((i : ℕ) → a ≤ i → i < a + c → b i ≡ false) → starts_from b c a ≡ []
  unfolding starts_from
  none_starts zero a h = refl
  none_starts (suc c) a h = rw (h a (omega arith) (omega arith)) (none_starts c (suc a) (λ i l k. h i (omega arith) (omega arith)))

  -- c + d starts are c starts and then d
  pub starts_add : (c d a : ℕ) → starts_from b (c + d) a ≡ starts_from b c a ++ starts_from b d (a + c)
  unfolding starts_from
  starts_add zero d a = rw (zero-add d, add-zero a)
  starts_add (suc c) d a =
      rw (suc-add c d, starts_add c d (suc a), suc-add a c, add-suc a c) (keep_append (b a) a (starts_from b c (suc a)) (starts_from b d (suc (a + c))))

  pub length_starts : (c a : ℕ) → length (starts_from b c a) ≤ c
  unfolding starts_from
  length_starts zero a = zero-le
  length_starts (suc c) a = omega (arith, length_keep (b a) a (starts_from b c (suc a)), length_starts c (suc a))

-- The test b says what H means, and nothing that H means stands at c or above
module _ (b : ℕ → Bool) (H : ℕ → Type 0) (c : ℕ) (means : (i : ℕ) → b i ≡ true → H i) (tests : (i : ℕ) → H i → b i ≡ true) (below : (i : ℕ) → H i → i < c) where
  -- a start is listed exactly if it is meant
  pub listed_means : (i : ℕ) → Listed i (starts_from b c 0) → H i
  listed_means i q = means i (listed_from b c 0 i q).0

  pub means_listed : (i : ℕ) → H i → Listed i (starts_from b c 0)
  means_listed i h = from_listed b c 0 i (tests i h) (omega arith) (omega (arith, below i h))

  -- and it is the only ascending list of exactly these
  pub only_starts : (xs : List ℕ) → Ascends xs → ((i : ℕ) → Listed i xs → H i) → ((i : ℕ) → H i → Listed i xs) → xs ≡ starts_from b c 0
  only_starts xs a f g = one_list xs (starts_from b c 0) a (starts_ascend b c 0) (λ i q. means_listed i (f i q)) (λ i q. g i (listed_means i q))

-- A loop that has come to start i and noted each start before it that passes: d is the list before, `total` how many they are
pub record Noting (b : ℕ → Bool) (d : List ℕ) (i : ℕ) (list : List ℕ) (total : ℕ) : Type 0 where
  pub lists : list ≡ over (starts_from b i 0) d
  pub counts : total ≡ length (starts_from b i 0)

module _ (b : ℕ → Bool) (d : List ℕ) where
  pub noting_none : Noting b d 0 d 0
  unfolding starts_from over
  noting_none = record { lists = refl; counts = refl }

  module _ (i : ℕ) (list : List ℕ) (total : ℕ) (w : Noting b d i list total) where
    pub noting_few : total ≤ i
    noting_few = omega (arith, w.counts, length_starts b i 0)

    one_more : starts_from b (i + 1) 0 ≡ starts_from b i 0 ++ keep (b i) i []
    unfolding starts_from
    one_more = let z : 0 + i ≡ i = omega arith in starts_add b i 1 0 ∙ rw z

    -- start i is noted if it passes
    pub noting_on : (t : Bool) (list' : List ℕ) (total' : ℕ) → t ≡ b i → list' ≡ noted t list total i → total' ≡ total + tally t → Noting b d (i + 1) list' total'
    noting_on t list' total' e l n =
        record {
          lists = l ∙ ap (λ (x : Bool). noted x list total i) e ∙ noted_keep (b i) i list total ∙ ap₂ (noted_all (keep (b i) i [])) w.lists w.counts ∙ noted_over (keep (b i) i []) (starts_from b i 0) d ∙ ap (λ (xs : List ℕ). over xs d) (sym one_more);
          counts = n ∙ ap₂ (λ (x y : ℕ). x + y) w.counts (ap tally e ∙ tally_keep (b i) i) ∙ sym (ap length one_more ∙ length-append (starts_from b i 0) (keep (b i) i []));
        }

    -- no start from i to c passes
    pub noting_end : (c : ℕ) → i ≤ c → ((j : ℕ) → i ≤ j → j < c → b j ≡ false) → (list ≡ over (starts_from b c 0) d) × (total ≡ length (starts_from b c 0))
    noting_end c l none =
        let all = rest_none in (w.lists ∙ ap (λ (xs : List ℕ). over xs d) (sym all), w.counts ∙ ap length (sym all))
      where
        rest_none : starts_from b c 0 ≡ starts_from b i 0
        rest_none =
            let z : i + (c - i) ≡ c = omega arith in
            let a : 0 + i ≡ i = omega arith in
            ap (λ (n : ℕ). starts_from b n 0) (sym z)
            ∙ starts_add b i (c - i) 0
            ∙ ap (λ (xs : List ℕ). starts_from b i 0 ++ xs) (none_starts b (c - i) (0 + i) (λ j u v. none j (omega arith) (omega arith)))
            ∙ append-nil (starts_from b i 0)
