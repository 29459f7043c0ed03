-- The examples of products, over the alphabet aen, on the definitions that the calls promise. Assumes nothing.
use mathlib.Core.Path.{◌≡◌, refl}
use mathlib.Core.Bool.{Bool, true, false}
use mathlib.Core.List.{List, [], ◌∷◌, map}
use Prim.Native.Nat.{ℕ}
use Rattle.letters.specs.Digits.{digit}
use Rattle.letters.specs.First.{first_with}
use Rattle.letters.specs.Letters.{member}
use Rattle.letters.specs.Members.{members_from, members}
use Rattle.letters.specs.Sizes.{outside}
use Rattle.std.specs.Prelude.{Result, Ok, Err}
use Rattle.inputs.specs.Refusals.{Check, bad, refuse}
use Rattle.inputs.specs.declared.refusal.Kind.{Kind}
use Rattle.inputs.specs.declared.refusal.Kind.TheVariants.{AlphabetSize, ProductAlphabet, NoProduct}
use Rattle.inputs.specs.declared.refusal.Refusal.{Refusal}
use Rattle.products.specs.Primes.{primes, product, prime, product_of, first_product, divides, is_product, other, dividing, letter_of}
use Rattle.products.specs.Gcd.{common_up_to, gcd}
use Rattle.products.specs.Conversions.{alphabet_then, sizes_then, convert_verdict, to_verdict, from_verdict}
use Rattle.products.specs.Meetings.{pair_verdict, products_meet, meeting_of}

-- a conversion with the limits of the types, and room for the result
abbrev converts : ℕ → List ℕ → Check
converts k vs = from_verdict 32 9 65536 k vs 1

abbrev meeting : ℕ → ℕ → ℕ → Result Bool Refusal
meeting k a b = meeting_of (pair_verdict 32 9 k a b) (products_meet a b)

abbrev refusal : Kind → ℕ → Check
refusal kind p = Err (record { kind = kind; place = p })

-- [ae], n and *
pub aen : (to_verdict 32 9 65536 3 (3 ∷ 4 ∷ 7 ∷ []) 3 ≡ Ok tt) × (map product_of (3 ∷ 4 ∷ 7 ∷ []) ≡ 6 ∷ 5 ∷ 30 ∷ []) × (map letter_of (6 ∷ 5 ∷ 30 ∷ []) ≡ 3 ∷ 4 ∷ 7 ∷ [])
unfolding to_verdict convert_verdict sizes_then alphabet_then outside refuse first_with bad product_of product prime primes members members_from member digit letter_of dividing divides
aen = (refl, refl, refl)

-- [ae], the mark and *
pub marked : (to_verdict 32 9 65536 3 (3 ∷ 0 ∷ 7 ∷ []) 3 ≡ Ok tt) × (map product_of (3 ∷ 0 ∷ 7 ∷ []) ≡ 6 ∷ 1 ∷ 30 ∷ []) × (map letter_of (6 ∷ 1 ∷ 30 ∷ []) ≡ 3 ∷ 0 ∷ 7 ∷ [])
unfolding to_verdict convert_verdict sizes_then alphabet_then outside refuse first_with bad product_of product prime primes members members_from member digit letter_of dividing divides
marked = (refl, refl, refl)

-- 6 meets 10, not 5; 1 meets neither 6 nor 1
pub six : (meeting 3 6 10 ≡ Ok true) × (meeting 3 6 5 ≡ Ok false) × (meeting 3 1 6 ≡ Ok false) × (meeting 3 1 1 ≡ Ok false)
unfolding pair_verdict alphabet_then outside refuse other is_product first_product product primes divides products_meet gcd common_up_to
six = (refl, refl, refl, refl)

-- 0, 4, 7 are refused for k = 3; 1 is taken
pub none : (converts 3 (0 ∷ []) ≡ refusal NoProduct 0) × (converts 3 (1 ∷ []) ≡ Ok tt) × (converts 3 (4 ∷ []) ≡ refusal NoProduct 0) × (converts 3 (7 ∷ []) ≡ refusal NoProduct 0)
unfolding from_verdict convert_verdict sizes_then alphabet_then outside refuse first_with other is_product first_product product primes divides
none = (refl, refl, refl, refl)

pub none_meets : (meeting 3 4 6 ≡ Err (record { kind = NoProduct; place = 0 })) × (meeting 3 6 4 ≡ Err (record { kind = NoProduct; place = 1 }))
unfolding pair_verdict alphabet_then outside refuse other is_product first_product product primes divides
none_meets = (refl, refl)

-- k is 1 to 9; 10 to 32 is refused with 6, others with 1
pub alphabets : (converts 0 (6 ∷ []) ≡ refusal AlphabetSize 0) × (converts 33 (6 ∷ []) ≡ refusal AlphabetSize 0) × (converts 10 (6 ∷ []) ≡ refusal ProductAlphabet 0) × (converts 32 (6 ∷ []) ≡ refusal ProductAlphabet 0) × (converts 9 (6 ∷ []) ≡ Ok tt)
unfolding from_verdict convert_verdict sizes_then alphabet_then outside refuse first_with other is_product first_product product primes divides
alphabets = (refl, refl, refl, refl, refl)
