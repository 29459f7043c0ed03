-- Two products meet exactly if their letters do (Dehghani, Lecroq, Mhaskar, Smyth, lemma 5); and what C is told of it. Assumes nothing.
use mathlib.Core.Path.{◌≡◌, refl, sym, ap, ◌∙◌}
use mathlib.Core.Bool.{Bool, true, false}
use Prim.Native.Nat.{ℕ, zero, ◌^◌, ◌≤◌, ◌<◌}
use native.Mathlib.Nat.{dvd_trans, le_of_dvd, pos_of_dvd_of_pos, le_trans, zero-lt-suc}
use native.Mathlib.Omega.{arith}
use borrow.Author.Tests.{lt-ltb, le-ltb, ltb-true, ltb-false}
use lib.Dec.{ltb}
use lib.IntN.{ℤ, pos}
use Rattle.promise.specs.Promised.{Promised}
use Rattle.hits.specs.Counts.{tally}
use Rattle.letters.specs.Digits.{digit}
use Rattle.letters.specs.Letters.{member, meets}
use Rattle.letters.proofs.Truth.{same_test, bool_cases}
use Rattle.letters.proofs.DigitLaws.{digit_above}
use Rattle.letters.proofs.LetterLaws.{member_digit, digit_member, meets_some, some_meets}
use Rattle.std.specs.Prelude.{Result, Ok, Err}
use Rattle.inputs.specs.Refusals.{Check}
use Rattle.inputs.specs.declared.refusal.Refusal.{Refusal}
use Rattle.codes.specs.Codes.{refused_code, code_of}
use Rattle.products.specs.Primes.{prime, product_of, letter_of}
use Rattle.products.specs.Gcd.{gcd}
use Rattle.products.specs.Meetings.{products_meet, pair_verdict, meeting_of}
use Rattle.products.proofs.GcdLaws.{is_gcd}
use Rattle.products.proofs.PrimeLaws.{prime_at, product_pos, member_prime, prime_member, divisor_member, product_again, letter_lt}
use Rattle.products.proofs.CheckLaws.{pair}

-- a member of a set of nine letters is one of the nine
member_nine : (c b : ℕ) → c < 2 ^ 9 → digit b c ≡ 1 → b < 9
member_nine c b h d =
    bool_cases (ltb b 9) (λ y. ltb-true b 9 y) (λ n. absurd (let z = digit_above 9 b c h (ltb-false b 9 n) in omega arith))

module _ (c d : ℕ) where
  -- a common divisor above 1 gives a common member
  pub exceeds_shares : 1 < gcd (product_of c) (product_of d) → (b : ℕ) × (member b c ≡ true) × (member b d ≡ true)
  exceeds_shares h =
      let g = is_gcd (product_of c) (product_of d) in
      let w = divisor_member c (gcd (product_of c) (product_of d)) h g.0 in
      let q = prime_member w.0 d w.1 (dvd_trans (prime w.0) w.3 g.1) in
      (w.0, digit_member w.0 c w.2, digit_member w.0 d q)

  -- a common member gives a common divisor above 1
  pub shares_exceeds : (b : ℕ) → b < 9 → digit b c ≡ 1 → digit b d ≡ 1 → 1 < gcd (product_of c) (product_of d)
  shares_exceeds b h x y =
      let g = is_gcd (product_of c) (product_of d) in
      let e = g.2 (prime b) (member_prime b c h x) (member_prime b d h y) in
      let p = pos_of_dvd_of_pos g.0 (product_pos c) in
      le_trans (prime_at b h).0 (le_of_dvd p e)

-- products of letters meet exactly if the letters meet
pub products_meet_lem : (c d : ℕ) → c < 2 ^ 9 → products_meet (product_of c) (product_of d) ≡ meets c d
unfolding products_meet
products_meet_lem c d h =
    same_test (ltb 1 (gcd (product_of c) (product_of d))) (meets c d)
    (λ y. let w = exceeds_shares c d (ltb-true 1 (gcd (product_of c) (product_of d)) y) in some_meets c d w.0 w.1 w.2)
    (λ y.
    let w = meets_some c d y in
    let x = member_digit w.0 c w.1 in
    lt-ltb 1 (gcd (product_of c) (product_of d)) (shares_exceeds c d w.0 (member_nine c w.0 h x) x (member_digit w.0 d w.2)))

-- the mark's product meets nothing, itself neither
pub one_meets : (v : ℕ) → products_meet 1 v ≡ false
unfolding products_meet
one_meets v = le-ltb 1 (gcd 1 v) (le_of_dvd (zero-lt-suc zero) (is_gcd 1 v).0)

-- two values that are accepted meet exactly if their letters do
pub values_meet : (L K k a b : ℕ) → K ≤ 9 → pair_verdict L K k a b ≡ Ok tt → products_meet a b ≡ meets (letter_of a) (letter_of b)
values_meet L K k a b nine e =
    let p = pair L K k a b e in
    let few = le_trans p.fits nine in
    let x = product_again k few a p.first in
    let y = product_again k few b p.second in
    ap (λ (v : ℕ). products_meet v b) (sym x) ∙ ap (λ (v : ℕ). products_meet (product_of (letter_of a)) v) (sym y) ∙ products_meet_lem (letter_of a) (letter_of b) (letter_lt a)

-- ---- the call from C
abbrev pub meeting_code : Result Bool Refusal → ℤ
meeting_code (Err r) = refused_code r
meeting_code (Ok b) = pos (tally b)

pub meet_told : (v : Check) (b : Bool) (m : Result Bool Refusal) (r : ℤ) → Promised {B = Unit {0}} (meeting_of v b) tt m tt → r ≡ meeting_code m → Promised {B = Unit {0}} (code_of v (tally b)) tt r tt
meet_told v b m r p e = record { answers = e ∙ ap meeting_code p.answers ∙ same v; leaves = refl }
  where
    same : (v : Check) → meeting_code (meeting_of v b) ≡ code_of v (tally b)
    same (Err q) = refl
    same (Ok tt) = refl
