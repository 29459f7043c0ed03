-- Ties: a pair is tied to the first at which its unsure letter stands, and every choice gives both the same. Assumes nothing.
use mathlib.Core.Path.{◌≡◌, refl, sym, ap, ◌∙◌}
use mathlib.Core.Bool.{Bool, true, false, ◌||◌, or-true}
use mathlib.Core.List.{List}
use mathlib.Core.Logic.{◌⊎◌, inl, inr, ⊎_elim}
use Prim.Native.Nat.{ℕ, zero, suc, ◌+◌, ◌-◌, ◌≤◌, ◌<◌}
use native.Mathlib.Nat.{zero-add}
use native.Mathlib.Omega.{arith}
use borrow.Author.Tests.{eqb-true, eqb-false, eq-eqb, ltb-false}
use lib.Dec.{eqb, ltb}
use lib.ListN.{length, get_or, set, replicate, take, drop}
use lib.Seq.{get_or-set_same, get_or-set_other}
use Rattle.std.specs.List.{position, position_or_len, zip}
use Rattle.std.specs.Option.{unwrap_or}
use Rattle.std.proofs.lemmas.List.Sums.{position_or_len_is}
use Rattle.std.proofs.lemmas.Slice.Zip.{get_or-zip, length-zip}
use Rattle.std.proofs.lemmas.List.{length-take, length-drop, get_or-take, get_or-drop}
use Rattle.std.proofs.lemmas.Grind.{common_steps}
use Rattle.letters.specs.Letters.{single}
use Rattle.letters.proofs.Truth.{bool_cases}
use Rattle.letters.proofs.LetterLaws.{shared_member, member_shared}
use Rattle.shifts.specs.Least.{least}
use Rattle.shifts.proofs.LeastLaws.{least_le, least_has, least_first, least_at, least_is, least_low}
use Rattle.choices.specs.Choices.{Chosen}
use Rattle.choices.specs.Candidates.{Candidates, CutBy, stands_at, tie_of, Tied, Backward, NeverAhead, joined, passed, stirred, Settled}
use Rattle.choices.proofs.JoinLaws.{length_joined, joined_less, joined_kept, passed_still}

-- a table of zeros has no number above its place
pub zeros_back : (n : ℕ) → NeverAhead (replicate n 0)
zeros_back n j = grind (arith, common_steps)

-- nor has a table that had none, with none put at a place
pub set_back : (A : List ℕ) (j v : ℕ) → j < length A → NeverAhead A → v ≤ j → NeverAhead (set A j v)
set_back A j v l b e h =
    bool_cases (eqb h j)
    (λ y. rw (eqb-true _ _ y) (rw (get_or-set_same A j v 0 l) e))
    (λ n. rw (get_or-set_other A j h v 0 (eqb-false _ _ n)) (b h))

module _ (P T : List ℕ) (i : ℕ) where
  -- in P, or under it
  pub stands_in : (c h : ℕ) → stands_at P T i c h ≡ true → (get_or P h 0 ≡ c) ⊎ (get_or T (i + h) 0 ≡ c)
  unfolding stands_at
  stands_in c h e =
      bool_cases (eqb (get_or P h 0) c) (λ y. inl (eqb-true _ _ y)) (λ n. inr (eqb-true _ _ (rw n at e)))

  pub stands_above : (h : ℕ) → stands_at P T i (get_or P h 0) h ≡ true
  unfolding stands_at
  stands_above h = rw (eq-eqb (get_or P h 0) (get_or P h 0) refl)

  pub stands_under : (h : ℕ) → stands_at P T i (get_or T (i + h) 0) h ≡ true
  unfolding stands_at
  stands_under h = rw (eq-eqb (get_or T (i + h) 0) (get_or T (i + h) 0) refl) (or-true (eqb (get_or P h 0) (get_or T (i + h) 0)))

  pub tie_le : (c j : ℕ) → tie_of P T i c j ≤ j
  unfolding tie_of
  tie_le c j = bool_cases (single c) (λ y. rw y (omega arith)) (λ n. rw n (omega (arith, least_le (stands_at P T i c) 0 j)))

  -- the first pair before j at which c stands, found in the two strings side by side
  module _ (c j : ℕ) (lp : j ≤ length P) (lt : i + j ≤ length T) where
    abbrev pairs : List (ℕ × ℕ)
    pairs = zip (take j P) (take (i + j - i) (drop i T))

    abbrev test : ℕ × ℕ → Bool
    test x = eqb x.0 c || eqb x.1 c

    length_pairs : length pairs ≡ j
    length_pairs = omega (arith, length-zip (take j P) (take (i + j - i) (drop i T)), length-take j P, length-drop i T, length-take (i + j - i) (drop i T))

    pair_at : (k : ℕ) → k < j → test (get_or pairs k (0, 0)) ≡ stands_at P T i c k
    unfolding stands_at
    pair_at k l =
        rw (
          get_or-zip (take j P) (take (i + j - i) (drop i T)) k (0, 0) (omega (arith, length-take j P)) (omega (arith, length-take (i + j - i) (drop i T), length-drop i T)),
          get_or-take j P k 0 l,
          get_or-take (i + j - i) (drop i T) k 0 (omega arith),
          get_or-drop i T k 0,
        )

    pub earliest_is : unwrap_or (position test pairs) j ≡ least (stands_at P T i c) 0 j
    earliest_is =
        rw (first, length_pairs)
        (bool_cases (ltb (least (stands_at P T i c) 0 j) j)
        (λ y. rw y)
        (λ y. rw y (omega (arith, ltb-false _ _ y, below))))
      where
        below : least (stands_at P T i c) 0 j ≤ j
        below = omega (arith, least_le (stands_at P T i c) 0 j)

        first : position_or_len test pairs ≡ least (stands_at P T i c) 0 j
        first =
            position_or_len_is test pairs (least (stands_at P T i c) 0 j) (0, 0) (omega (arith, length_pairs, below))
            (λ k u. pair_at k (omega (arith, below)) ∙ least_first (stands_at P T i c) 0 j k (omega arith) u)
            (λ u. pair_at (least (stands_at P T i c) 0 j) (omega (arith, length_pairs)) ∙ least_at (stands_at P T i c) 0 j (omega (arith, length_pairs)))

  -- where c stands at j, it stands at the pair that j is tied to
  first_stands : (c j : ℕ) → stands_at P T i c j ≡ true → stands_at P T i c (least (stands_at P T i c) 0 j) ≡ true
  first_stands c j e = least_has (stands_at P T i c) 0 j (rw (zero-add j) e)

  -- and that is the same pair wherever c stands
  pub first_same : (c j h : ℕ) → stands_at P T i c j ≡ true → stands_at P T i c h ≡ true → least (stands_at P T i c) 0 h ≡ least (stands_at P T i c) 0 j
  first_same c j h x y =
      least_is (stands_at P T i c) 0 h (least (stands_at P T i c) 0 j) (omega arith) (omega (arith, least_low (stands_at P T i c) 0 j h (omega arith) y))
      (λ k l m. least_first (stands_at P T i c) 0 j k l m)
      (first_stands c j x)

  module _ (f : ℕ → ℕ) (w : Chosen P T i f) where
    -- a choice gives a pair what it gives to a letter that stands there
    pub pair_value : (c h : ℕ) → h < length P → stands_at P T i c h ≡ true → f (get_or P h 0) ≡ f c
    pair_value c h l e =
        ⊎_elim (λ (q : get_or P h 0 ≡ c). ap f q) (λ (q : get_or T (i + h) 0 ≡ c). w.agree h l ∙ ap f q) (stands_in c h e)

    -- so tied pairs are given the same
    tie_value : (c j : ℕ) → j < length P → stands_at P T i c j ≡ true → f (get_or P (tie_of P T i c j) 0) ≡ f (get_or P j 0)
    unfolding tie_of
    tie_value c j l e =
        bool_cases (single c)
        (λ y. rw y)
        (λ n. rw n
        (pair_value c (least (stands_at P T i c) 0 j) (omega (arith, least_le (stands_at P T i c) 0 j)) (first_stands c j e)
        ∙ sym (pair_value c j l e)))

  -- the letters of P, cut by the text under them, are candidates
  pub cut_cands : (D : List ℕ) → CutBy T i P D → Candidates P T i D
  cut_cands D e =
      record {
        room = omega (arith, e.room);
        above = λ j b l m. (shared_member (get_or P j 0) (get_or T (i + j) 0) b (rw (e.less j l) at m)).0;
        under = λ j b l m. (shared_member (get_or P j 0) (get_or T (i + j) 0) b (rw (e.less j l) at m)).1;
        kept = λ f c j l. rw (e.less j l) (member_shared (get_or P j 0) (get_or T (i + j) 0) (f (get_or P j 0)) (c.above j l) (rw (c.agree j l) (c.under j l)));
      }

  -- joining two pairs that every choice gives the same loses no choice
  pub join_cands : (a j : ℕ) (C : List ℕ) → a < length P → j < length P → ((f : ℕ → ℕ) → Chosen P T i f → f (get_or P a 0) ≡ f (get_or P j 0)) → Candidates P T i C → Candidates P T i (joined a j C)
  join_cands a j C la lj same w =
      let ra : a < length C = omega (arith, w.room) in
      let rj : j < length C = omega (arith, w.room) in
      record {
        room = omega (arith, w.room, length_joined a j C);
        above = λ h b l m. w.above h b l (joined_less a j C ra rj h b m);
        under = λ h b l m. w.under h b l (joined_less a j C ra rj h b m);
        kept = λ f c h l. joined_kept a j C ra rj (λ h. f (get_or P h 0)) (same f c) (w.kept f c a la) (w.kept f c j lj) h (w.kept f c h l);
      }

  module _ (A B : List ℕ) (t : Tied P T i A B) where
    pub back_above : Backward (length P) A
    back_above j l = omega (arith, t.above j l, tie_le (get_or P j 0) j)

    pub back_under : Backward (length P) B
    back_under j l = omega (arith, t.under j l, tie_le (get_or T (i + j) 0) j)

    -- nor does a pass
    pub pass_cands : (C : List ℕ) → Candidates P T i C → (h : ℕ) → h ≤ length P → Candidates P T i (passed A B h C)
    unfolding passed
    pass_cands C w zero l = w
    pass_cands C w (suc h) l =
        join_cands (get_or B h 0) h (joined (get_or A h 0) h (passed A B h C)) (omega (arith, back_under h l)) l
        (λ f c. rw (t.under h l) (tie_value f c (get_or T (i + h) 0) h l (stands_under h)))
        (join_cands (get_or A h 0) h (passed A B h C) (omega (arith, back_above h l)) l
        (λ f c. rw (t.above h l) (tie_value f c (get_or P h 0) h l (stands_above h)))
        (pass_cands C w h (omega arith)))

    -- after a pass that changes nothing they are settled
    pub pass_settles : (C : List ℕ) → Candidates P T i C → stirred A B (length P) C ≡ false → Settled P T i C
    unfolding tie_of
    pass_settles C w e = record { cands = w; tied = λ c j h n l k x y. first c j n l x ∙ ap (λ (q : ℕ). get_or C q 0) (first_same c h j y x) ∙ sym (first c h n k y) }
      where
        -- each has the set of the first pair at which its letter stands
        first : (c j : ℕ) → single c ≡ false → j < length P → stands_at P T i c j ≡ true → get_or C j 0 ≡ get_or C (least (stands_at P T i c) 0 j) 0
        first c j n l x =
            let s = (passed_still A B C (length P) e).1 j l in
            ⊎_elim
            (λ (q : get_or P j 0 ≡ c). sym s.0 ∙ ap (λ (z : ℕ). get_or C z 0) (t.above j l ∙ at (get_or P j 0) q))
            (λ (q : get_or T (i + j) 0 ≡ c). sym s.1 ∙ ap (λ (z : ℕ). get_or C z 0) (t.under j l ∙ at (get_or T (i + j) 0) q))
            (stands_in c j x)
          where
            at : (d : ℕ) → d ≡ c → tie_of P T i d j ≡ least (stands_at P T i c) 0 j
            at d q = rw (q, n)
