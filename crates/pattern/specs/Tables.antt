-- What is worked out from the pattern beforehand, and what the engines need of it.
--
--   sure_prefix P        the length of P's longest prefix of single letters
--   mask_in P b h        the places among P's first h whose letters have b, as a number: digit j stands for place j
--   mask_table K P       for each of the first K base letters its row of places
--   shift_table M m b    for each h up to m the least s from 1 to m with b h s; 1 above, to M
--   front_shifts M P     for each h the least shift of P by which its first h letters meet P itself, as far as it still covers them
--   end_shifts M P       for each g the same for its last g letters
--   MaskTable K P rows  place j of row b has the digit that P's letter j has at b
--   FrontShifts P tab   tab has the least shifts of P's beginnings
--   EndShifts P tab     and of its ends
use Rattle.std.specs.Prelude.{ℕ, zero, suc, ◌+◌, ◌-◌, ◌^◌, ◌≤◌, ◌<◌, ◌≡◌, Bool, cond, List, leb, length, get_or}
use Rattle.std.specs.Int.Bits.{bit_or}
use Rattle.std.specs.List.{prefix_len}
use Rattle.letters.specs.Digits.{digit}
use Rattle.letters.specs.Letters.{member, single}
use Rattle.lent.specs.Table.{table}
use Rattle.shifts.specs.Least.{least}
use Rattle.shifts.specs.Shift.{self_fit}

unfoldable pub sure_prefix : List ℕ → ℕ
sure_prefix P = prefix_len single P

unfoldable pub mask_in : List ℕ → ℕ → ℕ → ℕ
mask_in P b zero = 0
mask_in P b (suc h) = cond (member b (get_or P h 0)) (bit_or (mask_in P b h) (2 ^ h)) (mask_in P b h)

unfoldable pub mask_table : ℕ → List ℕ → List ℕ
mask_table K P = table K (λ b. mask_in P b (length P))

unfoldable pub shift_table : ℕ → ℕ → (ℕ → ℕ → Bool) → List ℕ
shift_table M m b = table (M + 1) (λ h. cond (leb h m) (least (b h) 1 (m - 1)) 1)

unfoldable pub front_shifts : ℕ → List ℕ → List ℕ
front_shifts M P = shift_table M (length P) (λ h. self_fit P 0 h)

unfoldable pub end_shifts : ℕ → List ℕ → List ℕ
end_shifts M P = shift_table M (length P) (λ g. self_fit P (length P - g) (length P))

abbrev pub MaskTable : ℕ → List ℕ → List ℕ → Type 0
MaskTable K P rows = (b j : ℕ) → b < K → digit j (get_or rows b 0) ≡ digit b (get_or P j 0)

abbrev pub FrontShifts : List ℕ → List ℕ → Type 0
FrontShifts P tab = (h : ℕ) → 0 < h → h ≤ length P → get_or tab h 0 ≡ least (self_fit P 0 h) 1 (h - 1)

abbrev pub EndShifts : List ℕ → List ℕ → Type 0
EndShifts P tab = (g : ℕ) → g ≤ length P → get_or tab g 0 ≡ least (self_fit P (length P - g) (length P)) 1 (length P - 1)
