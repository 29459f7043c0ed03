-- Tables of shifts filled entry by entry, and the least shifts found in one pass. Assumes nothing.
use mathlib.Core.Path.{◌≡◌, sym, ◌∙◌}
use mathlib.Core.Bool.{Bool}
use mathlib.Core.Logic.{⊎_elim}
use mathlib.Core.List.{List}
use Prim.Native.Nat.{ℕ, ◌+◌, ◌-◌, ◌≤◌, ◌<◌}
use native.Mathlib.Nat.{eq-or-lt_of_le}
use native.Mathlib.Omega.{arith}
use borrow.Author.Tests.{leb-true, leb-false, lt-leb}
use lib.Dec.{leb}
use lib.ListN.{length, get_or, set, length-set, replicate, length-replicate, get_or-replicate}
use lib.Seq.{get_or-set_same, get_or-set_other}
use Rattle.letters.proofs.Truth.{bool_cases}
use Rattle.lent.proofs.TableLaws.{is_table}
use Rattle.shifts.specs.Least.{least}
use Rattle.shifts.proofs.LeastLaws.{least_ge, least_le, least_first, least_skip}
use Rattle.pattern.specs.Tables.{shift_table}

-- a store at s, seen at k
set_at : {R : Type 0} (s k : ℕ) → k < s + 1 → (k ≡ s → R) → (k < s → R) → R
set_at s k l here other = ⊎_elim here other (eq-or-lt_of_le (below l))
  where
    below : k < s + 1 → k ≤ s
    below l = omega arith

-- a table of n entries, of which those from 1 to before s stand in Q to their index
pub record Told (n : ℕ) (Q : ℕ → ℕ → Type 0) (tab : List ℕ) (s : ℕ) : Type 0 where
  pub room : length tab ≡ n
  pub told : (h : ℕ) → 0 < h → h < s → Q h (get_or tab h 0)

pub told_on : {n : ℕ} {Q : ℕ → ℕ → Type 0} {tab : List ℕ} {s v : ℕ} → Told n Q tab s → s < n → Q s v → Told n Q (set tab s v) (s + 1)
told_on {n} {Q} {tab} {s} {v} w l here =
    record {
      room = length-set tab s v ∙ w.room;
      told = λ h a b.
          set_at s h b
          (λ e. rw (e, get_or-set_same tab s v 0 (omega (arith, w.room))) here)
          (λ k. rw (get_or-set_other tab s h v 0 (λ z. omega arith)) (w.told h a k));
    }

abbrev pub enough : List ℕ → ℕ → ℕ → Bool
enough far h x = leb h (get_or far x 0)

-- the first h entries are right, the others are 1, and no shift before s is enough for h
pub record Built (far : List ℕ) (n m : ℕ) (out : List ℕ) (s h : ℕ) : Type 0 where
  pub long : length out ≡ n
  pub upto : h ≤ m + 1
  pub low : 0 < s
  pub top : s ≤ m
  pub short : (j : ℕ) → 0 < j → j < s → get_or far j 0 < h
  pub right : (k : ℕ) → k < h → get_or out k 0 ≡ least (enough far k) 1 (m - 1)
  pub rest : (k : ℕ) → h ≤ k → k < n → get_or out k 0 ≡ 1

pub built_start : (far : List ℕ) (n m : ℕ) → 0 < m → Built far n m (replicate n 1) 1 0
built_start far n m l =
    record {
      long = length-replicate n 1;
      upto = omega arith;
      low = omega arith;
      top = l;
      short = λ j a b. absurd (omega arith);
      right = λ k a. absurd (omega arith);
      rest = λ k a b. get_or-replicate n k 1 0 b;
    }

module _ {far : List ℕ} {n m : ℕ} {out : List ℕ} {s h : ℕ} (q : Built far n m out s h) where
  module _ (l : h ≤ m) (r : ℕ) (e : r ≡ least (enough far h) s (m - s)) where
    is : r ≡ least (enough far h) 1 (m - 1)
    is =
        let z : 1 + (m - 1) - s ≡ m - s = omega (arith, q.low, q.top) in
        e ∙ sym (least_skip (enough far h) 1 (m - 1) s q.low (omega (arith, q.low, q.top)) (λ j a b. lt-leb h (get_or far j 0) (q.short j a b)) ∙ rw z)

    pub next_top : r ≤ m
    next_top = let w = is in let lo = q.low in let hi = q.top in omega (arith, least_le (enough far h) 1 (m - 1))

    pub built_on : m < n → Built far n m (set out h r) r (h + 1)
    built_on u =
        let g = least_ge (enough far h) 1 (m - 1) in
        let w = is in
        let v = q.long in
        record {
          long = length-set out h r ∙ v;
          upto = omega arith;
          low = omega arith;
          top = next_top;
          short = λ j a b. let x : get_or far j 0 < h = leb-false h (get_or far j 0) (least_first (enough far h) 1 (m - 1) j a (omega arith)) in omega arith;
          right = λ k a.
              set_at h k a
              (λ y. rw y (get_or-set_same out h r 0 (omega arith) ∙ w))
              (λ y. get_or-set_other out h k r 0 (λ z. omega arith) ∙ q.right k y);
          rest = λ k a b. get_or-set_other out h k r 0 (λ z. omega arith) ∙ q.rest k (omega arith) b;
        }

  pub built_end : m < h → (M : ℕ) → n ≡ M + 1 → out ≡ shift_table M m (enough far)
  unfolding shift_table
  built_end l M e =
      is_table (M + 1) _ out (q.long ∙ e)
      (λ k b. bool_cases (leb k m)
      (λ y. let u : k ≤ m = leb-true _ _ y in rw y (q.right k (omega arith)))
      (λ x. let u : m < k = leb-false _ _ x in let t = q.upto in rw x (q.rest k (omega arith) (omega arith))))
