-- What the loop of word steps keeps, and the laws that answer its needs. Assumes nothing.
use mathlib.Core.Path.{◌≡◌, refl, sym, ap, ◌∙◌}
use mathlib.Core.Bool.{Bool, true, false, cond}
use mathlib.Core.List.{List}
use Prim.Native.Nat.{ℕ, suc, ◌+◌, ◌-◌, ◌≤◌, ◌<◌}
use native.Mathlib.Nat.{add-zero}
use native.Mathlib.Numerals.{add-one}
use native.Mathlib.Omega.{arith}
use borrow.Author.Tests.{eq-eqb, ne_eqb}
use lib.Dec.{eqb}
use lib.ListN.{length, get_or}
use Rattle.letters.specs.Members.{keep}
use Rattle.hits.specs.Counts.{tally, noted, noted_all}
use Rattle.hits.proofs.ListLaws.{tally_le}
use Rattle.word.specs.Word.{stepped, is_set}
use Rattle.hybrid.specs.Stretches.{Stretch, no_step, step_to, stretch}
use Rattle.hybrid.specs.Hybrid.{stretched, HybridTurns}

-- the steps that are left from the letter at e on, with the state w
abbrev pub ahead : List ℕ → List ℕ → ℕ → ℕ → Stretch
ahead P T e w = stretch P T (length T - e) e w

-- and those after a step that came to e and left the state w: none where it is 0
abbrev pub behind : List ℕ → List ℕ → ℕ → ℕ → Stretch
behind P T e w = cond (eqb w 0) (no_step e) (ahead P T e w)

-- the loop from a, with the list d lent and `total` hits noted before: at e, what it has noted and counted and what the steps r will come to all steps from a
pub record Stepping (P T : List ℕ) (a : ℕ) (d : List ℕ) (total e : ℕ) (r : Stretch) (list : List ℕ) (count : ℕ) : Type 0 where
  pub above : a ≤ e
  pub few : count ≤ total + (e - a)
  pub lists : noted_all (ahead P T a 0).found d total ≡ noted_all r.found list count
  pub counts : total + length (ahead P T a 0).found ≡ count + length r.found
  pub nexts : (ahead P T a 0).next ≡ r.next
  pub word_steps : (ahead P T a 0).steps ≡ e - a + r.steps

pub begin : (P T : List ℕ) (a : ℕ) (d : List ℕ) (total : ℕ) → Stepping P T a d total a (ahead P T a 0) d total
begin P T a d total =
    record { above = omega arith; few = omega arith; lists = refl; counts = refl; nexts = refl; word_steps = omega arith }

-- where there is a letter, a step and those after it
ahead_step : (P T : List ℕ) (e w : ℕ) → e < length T
    → ahead P T e w ≡ step_to P (e + 1) (stepped P (get_or T e 0) w) (behind P T (e + 1) (stepped P (get_or T e 0) w))
unfolding stretch
ahead_step P T e w l = let z : length T - e ≡ suc (length T - (e + 1)) = omega arith in rw z

-- noting a start, if it is a hit, and then others
noted_first : (b : Bool) (i : ℕ) (xs d : List ℕ) (total : ℕ) → noted_all (keep b i xs) d total ≡ noted_all xs (noted b d total i) (total + tally b)
unfolding noted_all
noted_first true i xs d total = rw (add-one total)
noted_first false i xs d total = rw (add-zero total)

length_first : (b : Bool) (i : ℕ) (xs : List ℕ) → length (keep b i xs) ≡ tally b + length xs
length_first true i xs = omega arith
length_first false i xs = omega arith

module _ {P T : List ℕ} {a : ℕ} {d : List ℕ} {total e : ℕ} {list : List ℕ} {count : ℕ} where
  -- with no step left it is all
  over : Stepping P T a d total e (no_step e) list count
      → HybridTurns (stretched (ahead P T a 0)) d total (record { next = e; total = count; scan = 1; steps = e - a }) list
  unfolding noted_all
  over k =
      let s : e - a ≡ (ahead P T a 0).steps = omega (arith, k.word_steps) in
      let c : count ≡ total + length (ahead P T a 0).found = omega (arith, k.counts) in
      record { answers = rw (k.nexts, s, c); leaves = sym k.lists }

  module _ (w : ℕ) where
    module _ (k : Stepping P T a d total e (ahead P T e w) list count) where
      -- one word step, and the hit noted that it found
      pub step : (m w' : ℕ) (list' : List ℕ) (count' : ℕ) (b : Bool) → m ≡ length P → e < length T
          → w' ≡ stepped P (get_or T e 0) w → b ≡ is_set (length P - 1) w' → list' ≡ noted b list count (e + 1 - m) → count' ≡ count + tally b
          → Stepping P T a d total (e + 1) (behind P T (e + 1) w') list' count'
      step m w' list' count' b em l ew eb el ec =
          let i = e + 1 - length P in
          let xs = (behind P T (e + 1) w').found in
          let u : ahead P T e w ≡ step_to P (e + 1) w' (behind P T (e + 1) w') = rw ew (ahead_step P T e w (omega arith)) in
          let f : (ahead P T e w).found ≡ keep b i xs = ap (λ (r : Stretch). r.found) u ∙ rw eb in
          let x : list' ≡ noted b list count i = rw em at el in
          let t = tally_le b in
          record {
            above = omega (arith, k.above);
            few = omega (arith, k.few, k.above);
            lists = k.lists ∙ rw (f, x, ec) (noted_first b i xs list count);
            counts = omega (arith, k.counts, ap length f, length_first b i xs);
            nexts = k.nexts ∙ ap (λ (r : Stretch). r.next) u;
            word_steps = omega (arith, k.word_steps, k.above, ap (λ (r : Stretch). r.steps) u);
          }

      -- at the text's end
      pub at_end : length T ≤ e → HybridTurns (stretched (ahead P T a 0)) d total (record { next = e; total = count; scan = 1; steps = e - a }) list
      unfolding stretch
      at_end h = let z : length T - e ≡ 0 = omega arith in over (rw z at k)

    module _ (k : Stepping P T a d total e (behind P T e w) list count) where
      -- a state that is not 0: on with the next letter
      pub alive_on : (w ≡ 0 → ⊥) → Stepping P T a d total e (ahead P T e w) list count
      alive_on n = rw (ne_eqb w 0 n) at k

      -- a state of 0: no step more
      pub at_zero : w ≡ 0 → HybridTurns (stretched (ahead P T a 0)) d total (record { next = e; total = count; scan = 1; steps = e - a }) list
      at_zero z = over (rw (eq-eqb w 0 z) at k)
