-- Prime products: base letter b stands for the prime at b, and a letter is the product of its members' primes (H. Dehghani, T. Lecroq, N. Mhaskar, W. F. Smyth: Practical KMP/BM Style Pattern-Matching on Indeterminate Strings, rule (R)).
--
--   primes           the nine primes
--   product xs       the product of these numbers
--   product_of c      the letter c as a product
--   Carries tab      a table has the product of each set of nine letters
--   first_product k   the product of the first k primes
--   divides d n      d divides n
--   is_product k v    the value v is a product for k; the entry mark's is 1
--   other k v        it is none
--   letter_of v       the letter whose members are the base letters whose primes divide v
use Rattle.std.specs.Prelude.{ℕ, ◌+◌, ◌*◌, ◌%◌, ◌^◌, ◌<◌, ◌≡◌, Bool, not, ◌&&◌, List, [], ◌∷◌, map, eqb, ltb, get_or, take}
use Rattle.letters.specs.Members.{members}
use Rattle.hits.specs.Counts.{tally}

unfoldable pub primes : List ℕ
primes = 2 ∷ 3 ∷ 5 ∷ 7 ∷ 11 ∷ 13 ∷ 17 ∷ 19 ∷ 23 ∷ []

unfoldable pub product : List ℕ → ℕ
product [] = 1
product (x ∷ xs) = x * product xs

-- the prime at b
unfoldable pub prime : ℕ → ℕ
prime b = get_or primes b 1

unfoldable pub product_of : ℕ → ℕ
product_of c = product (map prime (members 9 c))

pub record Carries (tab : List ℕ) : Type 0 where
  pub at : (c : ℕ) → c < 2 ^ 9 → get_or tab c 0 ≡ product_of c

unfoldable pub first_product : ℕ → ℕ
first_product k = product (take k primes)

unfoldable pub divides : ℕ → ℕ → Bool
divides d n = eqb (n % d) 0

unfoldable pub is_product : ℕ → ℕ → Bool
is_product k v = ltb 0 v && divides v (first_product k)

unfoldable pub other : ℕ → ℕ → Bool
other k v = not (is_product k v)

-- the letter whose member b is there exactly if the number at b divides v
unfoldable pub dividing : List ℕ → ℕ → ℕ
dividing [] v = 0
dividing (p ∷ ps) v = tally (divides p v) + 2 * dividing ps v

unfoldable pub letter_of : ℕ → ℕ
letter_of v = dividing primes v
