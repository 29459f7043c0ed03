-- Masks: the union of the rows of a letter's members has the places whose letters meet it. Assumes nothing.
use mathlib.Core.Path.{◌≡◌, ap, ◌∙◌}
use mathlib.Core.Bool.{true, false}
use mathlib.Core.List.{List}
use Prim.Native.Nat.{ℕ, ◌^◌, ◌≤◌, ◌<◌}
use native.Mathlib.Nat.{le_antisymm}
use native.Mathlib.Omega.{arith}
use lib.ListN.{get_or}
use Rattle.letters.specs.Digits.{digit}
use Rattle.letters.specs.Letters.{member, meets}
use Rattle.letters.specs.Members.{members, union_of}
use Rattle.hits.specs.Counts.{tally}
use Rattle.letters.proofs.Truth.{bool_cases, both_ways}
use Rattle.letters.proofs.DigitLaws.{digit_zero, digit_lt}
use Rattle.letters.proofs.LetterLaws.{member_digit, digit_member, meets_some, some_meets}
use Rattle.pattern.specs.Tables.{MaskTable}
use Rattle.pattern.proofs.MostLaws.{most, most_upper, most_least, member_below, union_most}

-- rows as a function of the base letter and the place, whatever holds them: at a place whose letter is x
module _ (K x c j : ℕ) (row : ℕ → ℕ → ℕ) (within : c < 2 ^ K) (is : (b : ℕ) → b < K → row b j ≡ digit b x) where
  pub rows_meet : most (λ b. row b j) 0 (members K c) ≡ tally (meets x c)
  rows_meet =
      bool_cases (meets x c)
      (λ y. let w = meets_some x c y in
      let l = member_below K c w.0 within w.2 in
      let u = most_upper (λ b. row b j) c K w.0 l w.2 in
      let v = most_least (λ b. row b j) c K 1 (λ b k m. let d = digit_lt b x in omega (arith, is b k)) in
      let d = member_digit w.0 x w.1 in
      rw y (le_antisymm v (omega (arith, is w.0 l))))
      (λ n. let v = most_least (λ b. row b j) c K 0 (λ b k m. none n b k m) in rw n (omega arith))
    where
      none : meets x c ≡ false → (b : ℕ) → b < K → member b c ≡ true → row b j ≤ 0
      none n b k m =
          let d = digit_lt b x in
          bool_cases (member b x)
          (λ y. absurd (both_ways (meets x c) (some_meets x c b y m) n))
          (λ z. let f : (digit b x ≡ 1 → ⊥) = (λ q. both_ways (member b x) (digit_member b x q) z) in omega (arith, is b k))

-- the mask of a letter, place by place
pub mask_digit : (K : ℕ) (P rows : List ℕ) (c j : ℕ) → MaskTable K P rows → c < 2 ^ K → digit j (union_of rows (members K c)) ≡ tally (meets (get_or P j 0) c)
mask_digit K P rows c j t h =
    union_most j rows (members K c) 0 ∙ ap (λ (x : ℕ). most (λ b. digit j (get_or rows b 0)) x (members K c)) (digit_zero j) ∙ rows_meet K (get_or P j 0) c j (λ b i. digit i (get_or rows b 0)) h (λ b l. t b j l)
