-- The entries of each table that is worked out from the pattern. Assumes nothing.
use mathlib.Core.Path.{◌≡◌, refl, sym, ap, ◌∙◌}
use mathlib.Core.Bool.{Bool, true, false, cond}
use mathlib.Core.List.{List}
use mathlib.Core.Logic.{⊎_elim}
use Prim.Native.Nat.{ℕ, zero, suc, ◌+◌, ◌-◌, ◌^◌, ◌≤◌, ◌<◌}
use native.Mathlib.Nat.{eq-or-lt_of_le, le_of_suc-le-suc, le_refl}
use native.Mathlib.Numerals.{add-one}
use native.Mathlib.Omega.{arith}
use borrow.Author.Tests.{le-leb, ltb-true, ltb-false}
use lib.Bits.{bit_or}
use lib.Dec.{leb, ltb}
use lib.ListN.{length, get_or, get_or-eq_default}
use Rattle.std.specs.List.{prefix_len}
use Rattle.std.proofs.lemmas.List.Sums.{prefix_len_passes, prefix_len_stops}
use Rattle.letters.specs.Digits.{digit}
use Rattle.letters.specs.Letters.{member, single}
use Rattle.letters.specs.Sizes.{SizedPattern}
use Rattle.letters.proofs.Truth.{bool_cases, both_ways}
use Rattle.letters.proofs.DigitLaws.{digit_zero, digit_lt, digit_or}
use Rattle.letters.proofs.LetterLaws.{member_digit, digit_member}
use Rattle.lent.proofs.TableLaws.{at_table}
use Rattle.hits.specs.Singles.{all_single}
use Rattle.hits.proofs.SingleLaws.{singles_none, singles_more, singles_upto}
use Rattle.shifts.specs.Least.{least}
use Rattle.hits.specs.Hits.{met}
use Rattle.shifts.specs.Shift.{covers, self_fit}
use Rattle.shifts.proofs.LeastLaws.{least_room}
use Rattle.pattern.specs.Tables.{sure_prefix, mask_in, mask_table, shift_table, front_shifts, end_shifts, MaskTable, FrontShifts, EndShifts}
use Rattle.pattern.proofs.PowerLaws.{power_self, power_other}

-- the masks, letter by letter and digit by digit
module _ (P : List ℕ) where
  pub mask_start : (b : ℕ) → mask_in P b 0 ≡ 0
  unfolding mask_in
  mask_start b = refl

  pub mask_grows : (h b : ℕ) → mask_in P b (h + 1) ≡ cond (member b (get_or P h 0)) (bit_or (mask_in P b h) (2 ^ h)) (mask_in P b h)
  unfolding mask_in
  mask_grows h b = rw (add-one h)

module _ (P : List ℕ) (b : ℕ) where
  mask_other : (h j : ℕ) → (j ≡ h → ⊥) → digit j (mask_in P b (suc h)) ≡ digit j (mask_in P b h)
  unfolding mask_in
  mask_other h j n =
      bool_cases (member b (get_or P h 0))
      (λ y. rw y (let o = digit_or j (mask_in P b h) (2 ^ h) in let z = power_other h j n in omega arith))
      (λ m. rw m)

  mask_above : (h j : ℕ) → h ≤ j → digit j (mask_in P b h) ≡ 0
  unfolding mask_in
  mask_above zero j l = digit_zero j
  mask_above (suc h) j l = mask_other h j (λ z. omega arith) ∙ mask_above h j (omega arith)

  mask_here : (h : ℕ) → digit h (mask_in P b (suc h)) ≡ digit b (get_or P h 0)
  unfolding mask_in
  mask_here h =
      let u = mask_above h h (le_refl h) in
      let d = digit_lt b (get_or P h 0) in
      bool_cases (member b (get_or P h 0))
      (λ y. let o = digit_or h (mask_in P b h) (2 ^ h) in
      rw y (omega (arith, power_self h, member_digit b (get_or P h 0) y)))
      (λ m. let z : (digit b (get_or P h 0) ≡ 1 → ⊥) = (λ q. both_ways (member b (get_or P h 0)) (digit_member b (get_or P h 0) q) m) in
      rw m (omega arith))

  mask_below : (h j : ℕ) → j < h → digit j (mask_in P b h) ≡ digit b (get_or P j 0)
  mask_below zero j l = absurd (omega arith)
  mask_below (suc h) j l =
      ⊎_elim
      (λ (q : j ≡ h). rw q (mask_here h))
      (λ (q : j < h). mask_other h j (λ z. omega arith) ∙ mask_below h j q)
      (eq-or-lt_of_le (le_of_suc-le-suc l))

pub mask_table_lem : (K : ℕ) (P rows : List ℕ) → rows ≡ mask_table K P → MaskTable K P rows
unfolding mask_table
mask_table_lem K P rows e b j l =
    ap (λ (x : List ℕ). digit j (get_or x b 0)) e
    ∙ ap (digit j) (at_table (λ b. mask_in P b (length P)) K b l)
    ∙ bool_cases (ltb j (length P))
    (λ y. mask_below P b (length P) j (ltb-true _ _ y))
    (λ n. let k : length P ≤ j = ltb-false _ _ n in
    mask_above P b (length P) j k ∙ sym (ap (digit b) (get_or-eq_default P 0 k) ∙ digit_zero b))

-- the shifts
shift_entry : (M m : ℕ) (b : ℕ → ℕ → Bool) (h : ℕ) → h ≤ m → m ≤ M → get_or (shift_table M m b) h 0 ≡ least (b h) 1 (m - 1)
unfolding shift_table
shift_entry M m b h l k = at_table (λ h. cond (leb h m) (least (b h) 1 (m - 1)) 1) (M + 1) h (omega arith) ∙ rw (le-leb h m l)

module _ {M : ℕ} {P : List ℕ} (tab : List ℕ) (w : SizedPattern M P) where
  -- a shift by all h of the first letters leaves nothing that must meet
  pub front_table : tab ≡ front_shifts M P → FrontShifts P tab
  unfolding front_shifts self_fit met
  front_table e h a l =
      ap (λ (x : List ℕ). get_or x h 0) e
      ∙ shift_entry M (length P) (λ h. self_fit P 0 h) h l w.short
      ∙ least_room (self_fit P 0 h) 1 (h - 1) (length P - 1) (omega arith) clear
    where
      clear : self_fit P 0 h (1 + (h - 1)) ≡ true
      clear = let z : covers 0 h (1 + (h - 1)) ≡ 0 = omega arith in rw z

  pub end_table : tab ≡ end_shifts M P → EndShifts P tab
  unfolding end_shifts
  end_table e g l = ap (λ (x : List ℕ). get_or x g 0) e ∙ shift_entry M (length P) (λ g. self_fit P (length P - g) (length P)) g l w.short

-- the prefix of single letters
module _ (P : List ℕ) (k : ℕ) (e : k ≡ sure_prefix P) where
  before : (h : ℕ) → h ≤ k → all_single P 0 h ≡ true
  unfolding sure_prefix
  before zero l = singles_none P 0
  before (suc h) l =
      let z : 0 + h ≡ h = omega arith in
      rw (← add-one h) (singles_more P 0 h (before h (omega arith)) (rw z (prefix_len_passes single P h 0 (omega arith))))

  pub sure_at : (h : ℕ) → h ≤ length P → all_single P 0 h ≡ leb h k
  unfolding sure_prefix
  sure_at = singles_upto P 0 k (length P) (before k (le_refl k)) (λ l. stop (omega arith))
    where
      stop : prefix_len single P < length P → single (get_or P (0 + k) 0) ≡ false
      stop l = let z : 0 + k ≡ prefix_len single P = omega arith in rw z (prefix_len_stops single P 0 l)

  pub all_sure : all_single P 0 (length P) ≡ leb (length P) k
  all_sure = sure_at (length P) (le_refl (length P))
