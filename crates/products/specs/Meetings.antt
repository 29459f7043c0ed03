-- Whether two products meet: their greatest common divisor exceeds 1 (H. Dehghani, T. Lecroq, N. Mhaskar, W. F. Smyth: Practical KMP/BM Style Pattern-Matching on Indeterminate Strings, lemma 5).
use Rattle.std.specs.Prelude.{ℕ, Bool, ltb, Result, Ok, Err}
use Rattle.promise.specs.Promised.{Promised}
use Rattle.inputs.specs.Refusals.{Check, refuse}
use Rattle.inputs.specs.declared.refusal.Kind.TheVariants.{NoProduct}
use Rattle.inputs.specs.declared.refusal.Refusal.{Refusal}
use Rattle.products.specs.Primes.{other}
use Rattle.products.specs.Gcd.{gcd}
use Rattle.products.specs.Conversions.{alphabet_then}

-- checks 1, 6, then 7 with place 0 or 1
unfoldable pub pair_verdict : ℕ → ℕ → ℕ → ℕ → ℕ → Check
pair_verdict L K k a b =
    alphabet_then L K k
    (refuse (other k a) NoProduct 0
    (refuse (other k b) NoProduct 1
    (Ok tt)))

unfoldable pub products_meet : ℕ → ℕ → Bool
products_meet a b = ltb 1 (gcd a b)

abbrev pub meeting_of : Check → Bool → Result Bool Refusal
meeting_of (Err r) b = Err r
meeting_of (Ok tt) b = Ok b

-- the answer for the products a and b; there is no lent memory
abbrev pub Met : ℕ → ℕ → ℕ → ℕ → ℕ → Result Bool Refusal → Type 0
Met L K k a b r = Promised {B = Unit {0}} (meeting_of (pair_verdict L K k a b) (products_meet a b)) tt r tt
