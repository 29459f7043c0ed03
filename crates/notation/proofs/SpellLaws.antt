-- Laws of the one spelling of a letter. Assumes nothing.
use mathlib.Core.Path.{◌≡◌, sym, ap, ◌∙◌}
use mathlib.Core.List.{List, [], ◌∷◌, ◌++◌}
use Prim.Native.Nat.{ℕ, ◌-◌, ◌^◌, ◌≤◌, ◌<◌}
use native.Mathlib.Nat.{zero-add}
use native.Mathlib.Omega.{arith}
use borrow.Author.Tests.{eq-eqb, ne_eqb}
use lib.ListN.{length, get_or}
use lib.Pow.{pow_pos}
use Rattle.notation.specs.Spelling.{pick, spelling, spell}
use Rattle.notation.proofs.PickLaws.{pick_zero, pick_snoc, pick_all}

module _ (A : List ℕ) (c : ℕ) where
  pub spell_none : length (pick A c) ≡ 0 → spell A c ≡ 124 ∷ []
  unfolding spell spelling
  spell_none e = rw (eq-eqb (length (pick A c)) 0 e)

  pub spell_one : length (pick A c) ≡ 1 → spell A c ≡ pick A c
  unfolding spell spelling
  spell_one e = rw (ne_eqb (length (pick A c)) 0 (λ z. omega arith), eq-eqb (length (pick A c)) 1 e)

  module _ (l : 1 < length (pick A c)) where
    pub spell_all : length (pick A c) ≡ length A → spell A c ≡ 42 ∷ []
    unfolding spell spelling
    spell_all e = rw (ne_eqb (length (pick A c)) 0 (λ z. omega arith), ne_eqb (length (pick A c)) 1 (λ z. omega arith), eq-eqb (length (pick A c)) (length A) e)

    pub spell_part : (length (pick A c) ≡ length A → ⊥) → spell A c ≡ 91 ∷ (pick A c ++ (93 ∷ []))
    unfolding spell spelling
    spell_part m = rw (ne_eqb (length (pick A c)) 0 (λ z. omega arith), ne_eqb (length (pick A c)) 1 (λ z. omega arith), ne_eqb (length (pick A c)) (length A) m)

-- the entry mark
pub spell_mark : (A : List ℕ) → spell A 0 ≡ 124 ∷ []
spell_mark A = spell_none A 0 (ap length (pick_zero A))

pub pick_single : (A : List ℕ) (j : ℕ) → j < length A → pick A (2 ^ j) ≡ get_or A j 0 ∷ []
pick_single A j h = ap (pick A) (sym (zero-add (2 ^ j))) ∙ pick_snoc A j 0 h (pow_pos j) ∙ ap (λ (xs : List ℕ). xs ++ (get_or A j 0 ∷ [])) (pick_zero A)

pub spell_single : (A : List ℕ) (j : ℕ) → j < length A → spell A (2 ^ j) ≡ get_or A j 0 ∷ []
spell_single A j h = spell_one A (2 ^ j) (ap length (pick_single A j h)) ∙ pick_single A j h

pub spell_star : (A : List ℕ) → 2 ≤ length A → spell A (2 ^ length A - 1) ≡ 42 ∷ []
spell_star A h = spell_all A (2 ^ length A - 1) (omega (arith, pick_all A)) (pick_all A)
