-- The members of a letter, ascending, and what a loop over them makes.
--
--   keep t a xs            a in front of xs if the test t holds
--   members_from c b f      the members of c among the f base letters from b on
--   members k c            the members of c in an alphabet of k
--   walked step s bs       what becomes of s by a step at each of these places in turn
--   union_of tab bs         the union of a table's entries at these places
use Rattle.std.specs.Prelude.{ℕ, zero, suc, Bool, true, false, List, [], ◌∷◌, get_or}
use Rattle.std.specs.Int.Bits.{bit_or}
use Rattle.letters.specs.Letters.{member}

abbrev pub keep : Bool → ℕ → List ℕ → List ℕ
keep true a xs = a ∷ xs
keep false a xs = xs

unfoldable pub members_from : ℕ → ℕ → ℕ → List ℕ
members_from c b zero = []
members_from c b (suc f) = keep (member b c) b (members_from c (suc b) f)

unfoldable pub members : ℕ → ℕ → List ℕ
members k c = members_from c 0 k

unfoldable pub walked : {S : Type 0} → (S → ℕ → S) → S → List ℕ → S
walked step s [] = s
walked step s (b ∷ bs) = walked step (step s b) bs

abbrev pub union_of : List ℕ → List ℕ → ℕ
union_of tab bs = walked (λ all b. bit_or all (get_or tab b 0)) 0 bs
