-- All letters have their lowest at once: the minimum of two choices is one, so the lowest of each letter are one too, and what is written is the only such list. Assumes nothing.
use mathlib.Core.Path.{◌≡◌, refl, sym, ap, ap₂, ◌∙◌}
use mathlib.Core.Bool.{true}
use mathlib.Core.List.{List, [], ◌∷◌, map}
use mathlib.Core.Logic.{inl, inr, ⊎_elim}
use Prim.Native.Nat.{ℕ, zero, suc, ◌+◌, ◌≤◌, ◌<◌, min}
use native.Mathlib.Nat.{eq-or-lt_of_le, le_of_suc-le-suc, le_antisymm, le_refl}
use native.Mathlib.Omega.{arith}
use borrow.Author.Tests.{eqb-true, eq-eqb, leb-true, leb-false}
use lib.Dec.{eqb, leb}
use lib.ListN.{length, get_or, take}
use lib.Seq.{take-length}
use Rattle.letters.specs.Letters.{member}
use Rattle.letters.proofs.Truth.{bool_cases}
use Rattle.shifts.proofs.LeastLaws.{least_at, least_low}
use Rattle.choices.specs.Choices.{Chosen, some_chosen, lowest_of, lowest_at}
use Rattle.choices.proofs.ChoiceLaws.{Stands, member_less, chosen_same, chosen_member, some_chosen_lem, chosen_some}

-- the smaller of two members is a member
min_member : (a b c : ℕ) → member a c ≡ true → member b c ≡ true → member (min a b) c ≡ true
min_member a b c x y =
    bool_cases (leb a b)
    (λ t. let l = leb-true a b t in let z : min a b ≡ a = omega arith in rw z x)
    (λ t. let l = leb-false a b t in let z : min a b ≡ b = omega arith in rw z y)

-- what f makes of the front of ys, where it makes of each element what g makes of that of xs
pub map_each : (f g : ℕ → ℕ) (xs ys : List ℕ) → length xs ≤ length ys → ((j : ℕ) → j < length xs → f (get_or ys j 0) ≡ g (get_or xs j 0)) → map f (take (length xs) ys) ≡ map g xs
map_each f g [] ys r h = refl
map_each f g (x ∷ xs) [] r h = absurd (omega arith)
map_each f g (x ∷ xs) (y ∷ ys) r h = ap₂ (λ (z : ℕ) (zs : List ℕ). z ∷ zs) (h 0 (omega arith)) (map_each f g xs ys (omega arith) (λ j l. h (suc j) (omega arith)))

module _ (P T : List ℕ) (i : ℕ) where
  -- with two choices their minimum is one
  pub min_chosen : (f g : ℕ → ℕ) → Chosen P T i f → Chosen P T i g → Chosen P T i (λ c. min (f c) (g c))
  min_chosen f g x y =
      record {
        above = λ j l. min_member _ _ (get_or P j 0) (x.above j l) (y.above j l);
        under = λ j l. min_member _ _ (get_or T (i + j) 0) (x.under j l) (y.under j l);
        agree = λ j l. ap₂ min (x.agree j l) (y.agree j l);
      }

  -- what a choice gives is among what is asked for
  value : (g : ℕ → ℕ) → Chosen P T i g → (c : ℕ) → Stands P T i c → some_chosen P T i (λ f. eqb (f c) (g c)) ≡ true
  value g w c s = chosen_some P T i (λ f. eqb (f c) (g c)) g w (λ h e. eq-eqb (h c) (g c) (e c s))

  -- no choice gives less
  pub lowest_least : (g : ℕ → ℕ) → Chosen P T i g → (c : ℕ) → Stands P T i c → lowest_of P T i c ≤ g c
  unfolding lowest_of
  lowest_least g w c s = least_low (λ b. some_chosen P T i (λ f. eqb (f c) b)) 0 c (g c) (omega arith) (value g w c s)

  -- and where there is one at all, some choice gives that
  pub lowest_given : (g : ℕ → ℕ) → Chosen P T i g → (c : ℕ) → Stands P T i c → (f : ℕ → ℕ) × Chosen P T i f × (f c ≡ lowest_of P T i c)
  unfolding lowest_of
  lowest_given g w c s =
      let a = lowest_least g w c s in
      let r = some_chosen_lem P T i (λ f. eqb (f c) (lowest_of P T i c)) (least_at (λ b. some_chosen P T i (λ f. eqb (f c) b)) 0 c (omega (arith, a, member_less (g c) c (chosen_member P T i g w c s)))) in
      (r.0, r.1, eqb-true _ _ r.2)

  -- the two letters of a pair have the same
  lowest_le : (g : ℕ → ℕ) → Chosen P T i g → (c d : ℕ) → Stands P T i c → Stands P T i d → ((f : ℕ → ℕ) → Chosen P T i f → f c ≡ f d) → lowest_of P T i c ≤ lowest_of P T i d
  lowest_le g w c d s t e = let r = lowest_given g w d t in omega (arith, lowest_least r.0 r.1 c s, e r.0 r.1, r.2)

  pub lowest_pair : (g : ℕ → ℕ) → Chosen P T i g → (j : ℕ) → j < length P → lowest_of P T i (get_or P j 0) ≡ lowest_of P T i (get_or T (i + j) 0)
  lowest_pair g w j l =
      le_antisymm
      (lowest_le g w (get_or P j 0) (get_or T (i + j) 0) (j, l, inl refl) (j, l, inr refl) (λ f x. x.agree j l))
      (lowest_le g w (get_or T (i + j) 0) (get_or P j 0) (j, l, inr refl) (j, l, inl refl) (λ f x. sym (x.agree j l)))

  -- one choice that gives the first h letters of P their lowest
  lowest_many : (g : ℕ → ℕ) → Chosen P T i g → (h : ℕ) → h ≤ length P → (f : ℕ → ℕ) × Chosen P T i f × ((j : ℕ) → j < h → f (get_or P j 0) ≡ lowest_of P T i (get_or P j 0))
  lowest_many g w zero l = (g, w, λ j k. absurd (omega arith))
  lowest_many g w (suc h) l =
      let r = lowest_many g w h (omega arith) in
      let q = lowest_given g w (get_or P h 0) (h, l, inl refl) in (
        λ c. min (r.0 c) (q.0 c),
        min_chosen r.0 q.0 r.1 q.1,
        λ j k.
            ⊎_elim
            (λ (z : j ≡ h). rw z (let a = lowest_least r.0 r.1 (get_or P h 0) (h, l, inl refl) in let b = q.2 in omega arith))
            (λ (z : j < h). let a = lowest_least q.0 q.1 (get_or P j 0) (j, omega arith, inl refl) in let b = r.2 j z in omega arith)
            (eq-or-lt_of_le (le_of_suc-le-suc k)),
      )

  -- where there is a choice, the lowest of all letters are one
  pub lowest_chosen : (g : ℕ → ℕ) → Chosen P T i g → Chosen P T i (lowest_of P T i)
  lowest_chosen g w =
      let r = lowest_many g w (length P) (le_refl (length P)) in
      chosen_same P T i r.0 (lowest_of P T i) r.1
      (λ c s. ⊎_elim
      (λ (e : c ≡ get_or P s.0 0). rw e (sym (r.2 s.0 s.1)))
      (λ (e : c ≡ get_or T (i + s.0) 0). rw e (sym (lowest_pair g w s.0 s.1) ∙ sym (r.2 s.0 s.1) ∙ r.1.agree s.0 s.1))
      s.2)

  -- what is written is the only list that a choice gives and that no choice goes below at any place
  pub only_lowest : (f : ℕ → ℕ) → Chosen P T i f → ((g : ℕ → ℕ) → Chosen P T i g → (j : ℕ) → j < length P → f (get_or P j 0) ≤ g (get_or P j 0)) → map f P ≡ lowest_at P T i
  unfolding lowest_at
  only_lowest f w h =
      ap (map f) (sym (take-length P))
      ∙ map_each f (lowest_of P T i) P P (le_refl (length P))
      (λ j l. le_antisymm (h (lowest_of P T i) (lowest_chosen f w) j l) (lowest_least f w (get_or P j 0) (j, l, inl refl)))
