-- A loop that fills an array place by place, from a place on. Assumes nothing.
use mathlib.Core.Path.{◌≡◌, ◌∙◌}
use mathlib.Core.List.{List}
use mathlib.Core.Logic.{⊎_elim}
use Prim.Native.Nat.{ℕ, ◌+◌, ◌≤◌, ◌<◌}
use native.Mathlib.Nat.{eq-or-lt_of_le}
use native.Mathlib.Omega.{arith}
use lib.ListN.{length, get_or, set, length-set}
use lib.Seq.{get_or-set_same, get_or-set_other}

-- it began at `from` and has come to j: g is what each place gets, C₀ the array before
pub record Filled (from : ℕ) (g : ℕ → ℕ) (C₀ : List ℕ) (j : ℕ) (C : List ℕ) : Type 0 where
  pub room : length C ≡ length C₀
  pub done : (h : ℕ) → from ≤ h → h < j → get_or C h 0 ≡ g h
  pub left : (h : ℕ) → j ≤ h → get_or C h 0 ≡ get_or C₀ h 0

pub fill_on : {from : ℕ} {g : ℕ → ℕ} {C₀ : List ℕ} {j : ℕ} {C : List ℕ} → Filled from g C₀ j C → j < length C₀ → (v : ℕ) → v ≡ g j → Filled from g C₀ (j + 1) (set C j v)
fill_on {from} {g} {C₀} {j} {C} w l v e =
    record {
      room = length-set C j v ∙ w.room;
      done = λ h f k.
          ⊎_elim
          (λ (q : h ≡ j). rw q (get_or-set_same C j v 0 (omega (arith, w.room)) ∙ e))
          (λ (q : h < j). get_or-set_other C j h v 0 (λ z. omega arith) ∙ w.done h f q)
          (eq-or-lt_of_le (before h k));
      left = λ h k. get_or-set_other C j h v 0 (λ z. omega arith) ∙ w.left h (omega arith);
    }
  where
    before : (h : ℕ) → h < j + 1 → h ≤ j
    before h k = omega arith
