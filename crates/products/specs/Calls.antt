-- The product calls from C: the length of the result, or whether two products meet; or minus the refusal's number and 256 times its place.
use Rattle.std.specs.Prelude.{ℕ, List, map, ℤ, length}
use Rattle.promise.specs.Promised.{Promised}
use Rattle.hits.specs.Counts.{tally}
use Rattle.codes.specs.Codes.{code_of, WrittenCalled}
use Rattle.products.specs.Primes.{product_of, letter_of}
use Rattle.products.specs.Conversions.{to_verdict, from_verdict}
use Rattle.products.specs.Meetings.{pair_verdict, products_meet}

-- d is the lent memory before, `left` afterwards
abbrev pub ToCalled : ℕ → ℕ → ℕ → ℕ → List ℕ → List ℕ → ℤ → List ℕ → Type 0
ToCalled L K N k cs d r left = WrittenCalled (to_verdict L K N k cs (length d)) (map product_of cs) d r left

abbrev pub FromCalled : ℕ → ℕ → ℕ → ℕ → List ℕ → List ℕ → ℤ → List ℕ → Type 0
FromCalled L K N k vs d r left = WrittenCalled (from_verdict L K N k vs (length d)) (map letter_of vs) d r left

-- 1 where the products a and b meet, else 0; there is no lent memory
abbrev pub MeetCalled : ℕ → ℕ → ℕ → ℕ → ℕ → ℤ → Type 0
MeetCalled L K k a b r = Promised {B = Unit {0}} (code_of (pair_verdict L K k a b) (tally (products_meet a b))) tt r tt
