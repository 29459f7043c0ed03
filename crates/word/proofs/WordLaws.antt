-- The state as a number: its digits, its step, what it means, and one machine word as a part of it. Assumes nothing.
use mathlib.Core.Path.{◌≡◌, refl, sym, ap, ◌∙◌}
use mathlib.Core.Bool.{Bool, true, false, ◌&&◌}
use mathlib.Core.List.{List, [], ◌∷◌}
use Prim.Native.Nat.{ℕ, zero, suc, ◌+◌, ◌-◌, ◌*◌, ◌/◌, ◌%◌, ◌^◌, ◌≤◌, ◌<◌, min}
use native.Mathlib.Nat.{lt_of_le_of_lt, mod-eq_of_lt, mod-mod}
use native.Mathlib.Omega.{arith}
use borrow.Author.Tests.{leb-true, le-leb}
use lib.Bits.{bit_and, bit_or, and_mod, or_mod, and_le_r, or_shifted}
use lib.Dec.{eqb, leb}
use lib.ListN.{length, get_or}
use Rattle.letters.specs.Digits.{digit}
use Rattle.letters.specs.Letters.{meets}
use Rattle.letters.proofs.Truth.{bool_cases, both_ways}
use Rattle.letters.proofs.DigitLaws.{digit_zero, digit_low, digit_up, digit_and, digits_same}
use Rattle.letters.proofs.LetterLaws.{meets_none}
use Rattle.hits.specs.Hits.{met, hit_at}
use Rattle.hits.specs.Counts.{tally}
use Rattle.hits.proofs.HitLaws.{hit_is, hit_met}
use Rattle.hits.proofs.MetLaws.{met_less}
use Rattle.word.specs.State.{Stepped, alive, Means, Marks}
use Rattle.word.specs.Word.{moved, positions, stepped, is_set}
use Rattle.word.proofs.StateLaws.{cleared, step_means}

-- the digits of a number
abbrev pub digits : ℕ → ℕ → ℕ
digits w j = digit j w

tally_lt : (b : Bool) → tally b < 2
tally_lt true = omega arith
tally_lt false = omega arith

tally_is : (b : Bool) → eqb (tally b) 1 ≡ b
tally_is true = refl
tally_is false = refl

tally_none : (b : Bool) → tally b ≡ 0 → b ≡ false
tally_none true e = absurd (omega arith)
tally_none false e = refl

-- a number's step is a step of its digits
pub moved_steps : (w M : ℕ) → Stepped (digits w) (digits M) (digits (moved w M))
unfolding moved
moved_steps w M zero =
    let a = digit_and 0 (2 * w + 1) M in
    let b = digit_low (2 * w + 1) in
    omega arith
moved_steps w M (suc j) =
    let h : (2 * w + 1) / 2 ≡ w = omega arith in
    digit_and (suc j) (2 * w + 1) M ∙ ap (λ (d : ℕ). min d (digit (suc j) M)) (digit_up j (2 * w + 1) ∙ ap (digit j) h)

-- the pattern positions that meet a letter, by their digits
pub positions_mark : (P : List ℕ) (c : ℕ) → Marks P c (digits (positions P c))
unfolding positions
positions_mark [] c j = digit_zero j ∙ sym (ap tally (meets_none c))
positions_mark (p ∷ P) c zero =
    let l = tally_lt (meets p c) in
    digit_low (2 * positions P c + tally (meets p c)) ∙ omega arith
positions_mark (p ∷ P) c (suc j) =
    let l = tally_lt (meets p c) in
    let h : (2 * positions P c + tally (meets p c)) / 2 ≡ positions P c = omega arith in
    digit_up j (2 * positions P c + tally (meets p c)) ∙ ap (digit j) h ∙ positions_mark P c j

-- and there is no other number with these digits
pub mark_positions : (P : List ℕ) (c M : ℕ) → Marks P c (digits M) → M ≡ positions P c
mark_positions P c M m = digits_same M (positions P c) (λ j. m j ∙ sym (positions_mark P c j))

-- what falls off the top of k bits is nothing that a mask of k bits would keep
pub in_width : (k w M : ℕ) → M < 2 ^ k → bit_and (bit_or (w * 2 ^ 1 % 2 ^ k) 1) M ≡ moved w M
unfolding moved
in_width k w M l = cut (bit_or (w * 2 ^ 1 % 2 ^ k) 1) ∙ ap (λ (x : ℕ). bit_and x (M % 2 ^ k)) same ∙ sym (cut (2 * w + 1))
  where
    cut : (x : ℕ) → bit_and x M ≡ bit_and (x % 2 ^ k) (M % 2 ^ k)
    cut x = sym (mod-eq_of_lt (lt_of_le_of_lt (and_le_r x M) l)) ∙ and_mod x M k

    same : bit_or (w * 2 ^ 1 % 2 ^ k) 1 % 2 ^ k ≡ (2 * w + 1) % 2 ^ k
    same =
        let h : w * 2 ^ 1 + 1 ≡ 2 * w + 1 = omega arith in
        or_mod (w * 2 ^ 1 % 2 ^ k) 1 k
        ∙ ap (λ (x : ℕ). bit_or x (1 % 2 ^ k)) (mod-mod (w * 2 ^ 1) (2 ^ k))
        ∙ sym (or_mod (w * 2 ^ 1) 1 k)
        ∙ ap (λ (x : ℕ). x % 2 ^ k) (or_shifted w 1 1 (omega arith) ∙ h)

module _ (P T : List ℕ) (a : ℕ) where
  -- the state that is cleared at a
  pub zero_means : Means P T a a (digits 0)
  zero_means = cleared P T a (digits 0) (λ j. digit_zero j)

  module _ (e w : ℕ) (m : Means P T a e (digits w)) where
    -- the word step at the letter that stands at e
    pub stepped_means : a ≤ e → Means P T a (e + 1) (digits (stepped P (get_or T e 0) w))
    unfolding stepped
    stepped_means l =
        let h : e + 1 ≡ suc e = omega arith in
        rw h (step_means P T a e (digits w) (digits (positions P (get_or T e 0))) (digits (moved w (positions P (get_or T e 0)))) l m (positions_mark P (get_or T e 0)) (moved_steps w (positions P (get_or T e 0))))

    pub set_alive : (j : ℕ) → is_set j w ≡ alive P T a e j
    unfolding is_set
    set_alive j = ap (λ (d : ℕ). eqb d 1) (m j) ∙ tally_is (alive P T a e j)

    -- the highest position says whether a hit ends here, of those that began at or after a
    pub top_hit : 0 < length P → e ≤ length T → is_set (length P - 1) w ≡ (leb (a + length P) e && hit_at P T (e - length P))
    unfolding alive
    top_hit p l =
        let h : suc (length P - 1) ≡ length P = omega arith in
        set_alive (length P - 1)
        ∙ ap (λ (k : ℕ). leb (a + k) e && met P T (e - k) 0 k) h
        ∙ bool_cases (leb (a + length P) e)
        (λ y. let u : a + length P ≤ e = leb-true _ _ y in rw y (sym (hit_is P T (e - length P) (omega arith))))
        (λ n. rw n)

  -- a state of 0: no start from a on is alive
  pub zero_dead : (e i : ℕ) → Means P T a e (digits 0) → a ≤ i → i < e → e ≤ i + length P → hit_at P T i ≡ false
  unfolding alive
  zero_dead e i m l k h =
      let u : suc (e - i - 1) ≡ e - i = omega arith in
      let v : e - (e - i) ≡ i = omega arith in
      let x : alive P T a e (e - i - 1) ≡ false = tally_none _ (sym (m (e - i - 1)) ∙ digit_zero (e - i - 1)) in
      let y : met P T i 0 (e - i) ≡ false = rw (u, le-leb (a + (e - i)) e (omega arith), v) at x in
      bool_cases (hit_at P T i) (λ t. absurd (both_ways (met P T i 0 (e - i)) (met_less P T i (length P) (e - i) (hit_met P T i t) (omega arith)) y)) (λ n. n)
