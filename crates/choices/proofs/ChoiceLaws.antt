-- The tests of choices mean what they say: whoever tries every choice finds one exactly if there is one. Assumes nothing.
use mathlib.Core.Path.{◌≡◌, refl, sym, ap, ◌∙◌}
use mathlib.Core.Bool.{Bool, true}
use mathlib.Core.List.{List, [], ◌∷◌}
use mathlib.Core.Logic.{◌⊎◌, inl, inr, ⊎_elim}
use Prim.Native.Nat.{ℕ, zero, suc, ◌+◌, ◌≤◌, ◌<◌}
use native.Mathlib.Nat.{eq-or-lt_of_le, le_of_suc-le-suc, le_refl}
use native.Mathlib.Omega.{arith}
use borrow.Author.Tests.{eqb-true, eqb-false, eq-eqb, ltb-true, lt-ltb}
use lib.Dec.{eqb}
use lib.ListN.{length, get_or}
use Rattle.letters.specs.Letters.{member}
use Rattle.letters.proofs.Truth.{bool_cases, and_true_l, and_true_r}
use Rattle.letters.proofs.DigitLaws.{below_power}
use Rattle.letters.proofs.LetterLaws.{member_high}
use Rattle.hits.specs.Meaning.{Listed}
use Rattle.shifts.specs.Least.{least}
use Rattle.shifts.proofs.LeastLaws.{least_at, least_low}
use Rattle.choices.specs.Choices.{Chosen, right_pair, right_pairs, chosen, giving, some_below, some_choice, letters_at, some_chosen}
use Rattle.choices.specs.Candidates.{low_member}

-- a member is below its letter, as a number
pub member_less : (b c : ℕ) → member b c ≡ true → b < c
member_less b c m = omega (arith, below_power b, member_high b c b (le_refl b) m)

-- the lowest member of a letter that has one
pub low_member_lem : (c b : ℕ) → member b c ≡ true → member (low_member c) c ≡ true
unfolding low_member
low_member_lem c b m = least_at (λ x. member x c) 0 c (omega (arith, least_low (λ x. member x c) 0 c b (omega arith) m, member_less b c m))

pub low_least : (c b : ℕ) → member b c ≡ true → low_member c ≤ b
unfolding low_member
low_least c b m = least_low (λ x. member x c) 0 c b (omega arith) m

-- some number below n has the property
pub below_some : (b : ℕ → Bool) (n : ℕ) → some_below b n ≡ true → (x : ℕ) × (x < n) × (b x ≡ true)
below_some b n e = let l = ltb-true _ _ e in (least b 0 n, l, least_at b 0 n (omega arith))

pub some_below_lem : (b : ℕ → Bool) (n x : ℕ) → x < n → b x ≡ true → some_below b n ≡ true
some_below_lem b n x l e = lt-ltb (least b 0 n) n (omega (arith, least_low b 0 n x (omega arith) e))

-- what is found by trying passes the test
found : (b : (ℕ → ℕ) → Bool) (cs : List ℕ) (f : ℕ → ℕ) → some_choice b cs f ≡ true → (g : ℕ → ℕ) × (b g ≡ true)
unfolding some_choice
found b [] f e = (f, e)
found b (c ∷ cs) f e = let w = below_some _ c e in found b cs (giving c w.0 f) (and_true_r (member w.0 c) _ w.2)

-- g is among the choices that are tried, as far as the letters go that matter to the test
module _ (b : (ℕ → ℕ) → Bool) (g : ℕ → ℕ) (Matters : ℕ → Type 0) (passes : (h : ℕ → ℕ) → ((c : ℕ) → Matters c → h c ≡ g c) → b h ≡ true) where
  tried : (cs : List ℕ) (f : ℕ → ℕ) → ((c : ℕ) → Listed c cs → member (g c) c ≡ true) → ((c : ℕ) → Matters c → (f c ≡ g c) ⊎ Listed c cs) → some_choice b cs f ≡ true
  unfolding some_choice Listed
  tried [] f m k = passes f (λ c s. ⊎_elim (λ (e : f c ≡ g c). e) (λ q. absurd q) (k c s))
  tried (c ∷ cs) f m k =
      some_below_lem _ c (g c) (member_less (g c) c (m c (inl refl)))
      (rw (m c (inl refl)) (tried cs (giving c (g c) f) (λ d q. m d (inr q)) next))
    where
      next : (d : ℕ) → Matters d → (giving c (g c) f d ≡ g d) ⊎ Listed d cs
      next d s =
          bool_cases (eqb d c)
          (λ y. inl (rw y (ap g (sym (eqb-true d c y)))))
          (λ n. ⊎_elim (λ (e : f d ≡ g d). inl (rw n e)) (λ q. ⊎_elim (λ (z : d ≡ c). absurd (eqb-false d c n z)) (λ r. inr r) q) (k d s))

module _ (P T : List ℕ) (i : ℕ) where
  -- the letter c stands in P or under it
  abbrev pub Stands : ℕ → Type 0
  Stands c = (j : ℕ) × (j < length P) × ((c ≡ get_or P j 0) ⊎ (c ≡ get_or T (i + j) 0))

  pair_at : (f : ℕ → ℕ) (h j : ℕ) → right_pairs P T i f h ≡ true → j < h → right_pair f (get_or P j 0) (get_or T (i + j) 0) ≡ true
  unfolding right_pairs
  pair_at f zero j e l = absurd (omega arith)
  pair_at f (suc h) j e l =
      ⊎_elim
      (λ (q : j ≡ h). rw q (and_true_l _ _ e))
      (λ (q : j < h). pair_at f h j (and_true_r (right_pair f (get_or P h 0) (get_or T (i + h) 0)) _ e) q)
      (eq-or-lt_of_le (le_of_suc-le-suc l))

  pairs_all : (f : ℕ → ℕ) (h : ℕ) → ((j : ℕ) → j < h → right_pair f (get_or P j 0) (get_or T (i + j) 0) ≡ true) → right_pairs P T i f h ≡ true
  unfolding right_pairs
  pairs_all f zero k = refl
  pairs_all f (suc h) k = rw (k h (omega arith)) (pairs_all f h (λ j l. k j (omega arith)))

  -- the test is the meaning
  pub test_chosen : (f : ℕ → ℕ) → chosen P T i f ≡ true → Chosen P T i f
  test_chosen f e =
      record {
        above = λ j l. and_true_l _ _ (pair_at f (length P) j e l);
        under = λ j l. and_true_l _ _ (and_true_r (member (f (get_or P j 0)) (get_or P j 0)) _ (pair_at f (length P) j e l));
        agree = λ j l.
            eqb-true _ _
            (and_true_r (member (f (get_or T (i + j) 0)) (get_or T (i + j) 0)) _ (and_true_r (member (f (get_or P j 0)) (get_or P j 0)) _ (pair_at f (length P) j e l)));
      }

  pub chosen_test : (f : ℕ → ℕ) → Chosen P T i f → chosen P T i f ≡ true
  chosen_test f w =
      pairs_all f (length P) (λ j l. rw (w.above j l, w.under j l, eq-eqb (f (get_or P j 0)) (f (get_or T (i + j) 0)) (w.agree j l)))

  -- a choice is right by what it gives to the letters that stand there
  pub chosen_same : (f g : ℕ → ℕ) → Chosen P T i f → ((c : ℕ) → Stands c → g c ≡ f c) → Chosen P T i g
  chosen_same f g w e =
      record {
        above = λ j l. rw (e (get_or P j 0) (j, l, inl refl)) (w.above j l);
        under = λ j l. rw (e (get_or T (i + j) 0) (j, l, inr refl)) (w.under j l);
        agree = λ j l. e (get_or P j 0) (j, l, inl refl) ∙ w.agree j l ∙ sym (e (get_or T (i + j) 0) (j, l, inr refl));
      }

  -- it gives each of them one of its members
  pub chosen_member : (f : ℕ → ℕ) → Chosen P T i f → (c : ℕ) → Stands c → member (f c) c ≡ true
  chosen_member f w c s = ⊎_elim (λ (e : c ≡ get_or P s.0 0). rw e (w.above s.0 s.1)) (λ (e : c ≡ get_or T (i + s.0) 0). rw e (w.under s.0 s.1)) s.2

  stands_listed : (h c j : ℕ) → j < h → (c ≡ get_or P j 0) ⊎ (c ≡ get_or T (i + j) 0) → Listed c (letters_at P T i h)
  unfolding letters_at Listed
  stands_listed zero c j l s = absurd (omega arith)
  stands_listed (suc h) c j l s =
      ⊎_elim
      (λ (q : j ≡ h).
      ⊎_elim (λ (e : c ≡ get_or P j 0). inl (e ∙ ap (λ (x : ℕ). get_or P x 0) q)) (λ (e : c ≡ get_or T (i + j) 0). inr (inl (e ∙ ap (λ (x : ℕ). get_or T (i + x) 0) q))) s)
      (λ (q : j < h). inr (inr (stands_listed h c j q s)))
      (eq-or-lt_of_le (le_of_suc-le-suc l))

  listed_stands : (h c : ℕ) → h ≤ length P → Listed c (letters_at P T i h) → Stands c
  unfolding letters_at Listed
  listed_stands zero c l q = absurd q
  listed_stands (suc h) c l q =
      ⊎_elim
      (λ (e : c ≡ get_or P h 0). (h, omega arith, inl e))
      (λ r. ⊎_elim (λ (e : c ≡ get_or T (i + h) 0). (h, omega arith, inr e)) (λ r. listed_stands h c (omega arith) r) r)
      q

  -- by trying, a choice that passes is found exactly if there is one
  pub some_chosen_lem : (b : (ℕ → ℕ) → Bool) → some_chosen P T i b ≡ true → (g : ℕ → ℕ) × Chosen P T i g × (b g ≡ true)
  unfolding some_chosen
  some_chosen_lem b e =
      let w = found _ (letters_at P T i (length P)) _ e in
      (w.0, test_chosen w.0 (and_true_l _ _ w.1), and_true_r (chosen P T i w.0) _ w.1)

  pub chosen_some : (b : (ℕ → ℕ) → Bool) (g : ℕ → ℕ) → Chosen P T i g → ((h : ℕ → ℕ) → ((c : ℕ) → Stands c → h c ≡ g c) → b h ≡ true) → some_chosen P T i b ≡ true
  unfolding some_chosen
  chosen_some b g w k =
      tried _ g Stands (λ h e. rw (chosen_test h (chosen_same g h w e)) (k h e)) (letters_at P T i (length P)) (λ c. 0)
      (λ c q. chosen_member g w c (listed_stands (length P) c (le_refl (length P)) q))
      (λ c s. inr (stands_listed (length P) c s.0 s.1 s.2))
