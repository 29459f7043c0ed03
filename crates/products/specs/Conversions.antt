-- The two conversions: what they refuse, and what they answer and leave in lent memory.
-- L is the largest alphabet, K the largest for products, N the longest string.
--
--   alphabet_then     checks 1 and 6, then those that are left
--   sizes_then        checks 1, 6 and 3, then those that are left
--   elements         the check of the elements, then 8
--   convert_verdict   the checks of a conversion of elements, of which some are wrong
--   to_verdict, from_verdict     the checks of letters that are to be products, and of products that are to be letters
--   Right            no element is wrong, over some alphabet for products
--   Converted        the promise of any conversion
--   ToProducts, FromProducts   the promises of the two
use Rattle.std.specs.Prelude.{◌≡◌, ◌≤◌, ◌<◌, ℕ, Bool, true, false, List, map, ltb, length, get_or, Result, Ok}
use Rattle.letters.specs.First.{first_with}
use Rattle.letters.specs.Sizes.{outside}
use Rattle.inputs.specs.Refusals.{Check, bad, refuse}
use Rattle.inputs.specs.Answers.{WrittenInto}
use Rattle.inputs.specs.declared.refusal.Kind.{Kind}
use Rattle.inputs.specs.declared.refusal.Kind.TheVariants.{AlphabetSize, TextLength, TextLetter, ProductAlphabet, NoProduct, Room}
use Rattle.inputs.specs.declared.refusal.Refusal.{Refusal}
use Rattle.products.specs.Primes.{product_of, letter_of, other}

unfoldable pub alphabet_then : ℕ → ℕ → ℕ → Check → Check
alphabet_then L K k rest = refuse (outside 1 L k) AlphabetSize 0 (refuse (ltb K k) ProductAlphabet 0 rest)

unfoldable pub sizes_then : ℕ → ℕ → ℕ → ℕ → ℕ → Check → Check
sizes_then L K N k n rest = alphabet_then L K k (refuse (ltb N n) TextLength 0 rest)

-- of n elements the first wrong one is at `place`, n where there is none, its refusal's kind given; the lent memory has room for so many
abbrev pub elements : Kind → ℕ → ℕ → ℕ → Check
elements kind place n room = refuse (ltb place n) kind place (refuse (ltb room n) Room 0 (Ok tt))

unfoldable pub convert_verdict : ℕ → ℕ → ℕ → ℕ → Kind → (ℕ → Bool) → List ℕ → ℕ → Check
convert_verdict L K N k kind wrong xs room = sizes_then L K N k (length xs) (elements kind (first_with wrong xs) (length xs) room)

-- letters as a text has them: marks may stand among them
unfoldable pub to_verdict : ℕ → ℕ → ℕ → ℕ → List ℕ → ℕ → Check
to_verdict L K N k cs room = convert_verdict L K N k TextLetter (bad true k) cs room

unfoldable pub from_verdict : ℕ → ℕ → ℕ → ℕ → List ℕ → ℕ → Check
from_verdict L K N k vs room = convert_verdict L K N k NoProduct (other k) vs room

abbrev pub Right : (ℕ → ℕ → Bool) → ℕ → List ℕ → Type 0
Right wrong K xs = (k : ℕ) × (k ≤ K) × ((i : ℕ) → i < length xs → wrong k (get_or xs i 0) ≡ false)

-- elements that `makes` turns into others. d is the lent memory before, `left` afterwards
abbrev pub Converted : Kind → (ℕ → ℕ → Bool) → (ℕ → ℕ) → ℕ → ℕ → ℕ → ℕ → List ℕ → List ℕ → Result ℕ Refusal → List ℕ → Type 0
Converted kind wrong makes L K N k xs d r left = WrittenInto (convert_verdict L K N k kind (wrong k) xs (length d)) (map makes xs) d r left

abbrev pub ToProducts : ℕ → ℕ → ℕ → ℕ → List ℕ → List ℕ → Result ℕ Refusal → List ℕ → Type 0
ToProducts L K N k cs d r left = WrittenInto (to_verdict L K N k cs (length d)) (map product_of cs) d r left

abbrev pub FromProducts : ℕ → ℕ → ℕ → ℕ → List ℕ → List ℕ → Result ℕ Refusal → List ℕ → Type 0
FromProducts L K N k vs d r left = WrittenInto (from_verdict L K N k vs (length d)) (map letter_of vs) d r left
