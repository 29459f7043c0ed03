-- The nine primes: what divides a letter's product, and that a value that is taken is the product of exactly one letter. Assumes nothing.
use mathlib.Core.Path.{◌≡◌, refl, sym, ap, ◌∙◌, subst}
use mathlib.Core.List.{List, [], ◌∷◌}
use mathlib.Core.Logic.{⊎_elim}
use mathlib.Core.Bool.{Bool, true, false, ◌&&◌}
use Prim.Native.Nat.{ℕ, zero, suc, ◌+◌, ◌*◌, ◌/◌, ◌%◌, ◌^◌, ◌≤◌, ◌<◌, ◌∣◌}
use native.Mathlib.Nat.{mod-eq-zero_of_dvd, eq-zero-or-pos, zero-add, pow-suc, lt_of_lt_of_le, le_of_suc-le-suc, not-suc-le-zero}
use native.Mathlib.Omega.{arith}
use borrow.Author.Tests.{lt-ltb, ltb-true}
use lib.Dec.{T, eqb, eqb→eq, ltb, ltb→lt}
use lib.ListN.{length, get_or, take}
use lib.Pow.{pow_pos, pow_mono}
use Rattle.letters.specs.Digits.{digit}
use Rattle.letters.specs.Members.{members}
use Rattle.letters.proofs.Truth.{bool_cases, and_true_l, and_true_r}
use Rattle.letters.proofs.DigitLaws.{digit_lt, digit_ext}
use Rattle.hits.specs.Counts.{tally}
use Rattle.inputs.specs.Refusals.{bad}
use Rattle.inputs.proofs.BadLaws.{good, good_small}
use Rattle.products.specs.Primes.{primes, product, prime, product_of, first_product, divides, is_product, dividing, letter_of}
use Rattle.products.proofs.Divisors.{divides_true, true_divides, Prime, prime_test, prime_by, below, below_at, and_l, and_r, implies, implied}
use Rattle.products.proofs.SetLaws.{Primes, set_product, over_members, set_take, set_none, member_divides, set_divides, positive, which_member, some_member, as_set}

-- each test is computed, for all nine at once
primes_test : List ℕ → Bool
primes_test [] = true
primes_test (p ∷ ps) = (ltb 1 p && prime_test p) && primes_test ps

primes_by : (ps : List ℕ) → T (primes_test ps) → Primes ps
unfolding Primes primes_test
primes_by [] t = tt
primes_by (p ∷ ps) t =
    let a = and_l (ltb 1 p && prime_test p) (primes_test ps) t in
    let l = ltb→lt 1 p (and_l (ltb 1 p) (prime_test p) a) in
    ((omega arith, prime_by p (omega arith) (and_r (ltb 1 p) (prime_test p) a)), primes_by ps (and_r (ltb 1 p && prime_test p) (primes_test ps) t))

pub nine : Primes primes
unfolding primes primes_test
nine = primes_by primes tt

pub prime_at : (b : ℕ) → b < 9 → (1 < prime b) × Prime (prime b)
unfolding prime primes
prime_at b h =
    let t = below_at 9 (λ i. ltb 1 (get_or primes i 1) && prime_test (get_or primes i 1)) tt b h in
    let l = ltb→lt 1 (get_or primes b 1) (and_l (ltb 1 (get_or primes b 1)) (prime_test (get_or primes b 1)) t) in
    (l, prime_by (get_or primes b 1) (omega arith) (and_r (ltb 1 (get_or primes b 1)) (prime_test (get_or primes b 1)) t))

-- none divides another
pub apart : (i j : ℕ) → i < 9 → j < 9 → prime i ∣ prime j → i ≡ j
unfolding prime primes
apart i j hi hj d =
    let t =
    below_at 9 (λ j. implies (eqb (get_or primes j 1 % get_or primes i 1) 0) (eqb i j))
    (below_at 9 (λ i. below 9 (λ j. implies (eqb (get_or primes j 1 % get_or primes i 1) 0) (eqb i j))) tt i hi) j hj in
    eqb→eq i j (implied (eqb (get_or primes j 1 % get_or primes i 1) 0) (eqb i j) t (subst (λ (x : ℕ). T (eqb x 0)) (sym (mod-eq-zero_of_dvd (get_or primes i 1) d)) tt))

-- a letter's product, by its digits
pub by_digits : (c : ℕ) → product_of c ≡ set_product primes c
unfolding product_of members prime primes
by_digits c =
    over_members primes c primes 0 c (λ i. ap (λ (j : ℕ). get_or primes j 1) (zero-add i)) (λ i. ap (λ (j : ℕ). digit j c) (zero-add i))

pub product_pos : (c : ℕ) → 0 < product_of c
product_pos c = rw (by_digits c) (positive primes nine c)

-- the entry mark's product is 1
pub product_none : product_of 0 ≡ 1
product_none = by_digits 0 ∙ set_none primes

-- a prime divides a letter's product exactly if its base letter is a member
pub member_prime : (b c : ℕ) → b < 9 → digit b c ≡ 1 → prime b ∣ product_of c
unfolding prime primes
member_prime b c h d = rw (by_digits c) (member_divides primes c b h d)

pub prime_member : (b c : ℕ) → b < 9 → prime b ∣ product_of c → digit b c ≡ 1
unfolding prime primes
prime_member b c h d =
    let q = prime_at b h in
    let w = which_member primes (prime b) q.0 q.1 c (subst (λ (y : ℕ). prime b ∣ y) (by_digits c) d) in
    subst (λ (i : ℕ). digit i c ≡ 1) (sym (apart b w.0 h w.1 w.3)) w.2

-- a divisor of a product that exceeds 1 is divided by a member's prime
pub divisor_member : (c g : ℕ) → 1 < g → g ∣ product_of c → (b : ℕ) × (b < 9) × (digit b c ≡ 1) × (prime b ∣ g)
unfolding prime primes
divisor_member c g h d =
    ⊎_elim (λ z. absurd (omega arith)) (λ f. f) (some_member primes nine c g (subst (λ (y : ℕ). g ∣ y) (by_digits c) d))

-- ---- back from a value to its letter
digit_dividing : (ps : List ℕ) (v b : ℕ) → b < length ps → digit b (dividing ps v) ≡ tally (divides (get_or ps b 1) v)
unfolding dividing digit
digit_dividing [] v b h = absurd (not-suc-le-zero h)
digit_dividing (p ∷ ps) v zero h = low (divides p v) (dividing ps v)
  where
    low : (t : Bool) (x : ℕ) → (tally t + 2 * x) % 2 ≡ tally t
    low true x = omega arith
    low false x = omega arith
digit_dividing (p ∷ ps) v (suc b) h =
    ap (digit b) (up (divides p v) (dividing ps v)) ∙ digit_dividing ps v b (le_of_suc-le-suc h)
  where
    up : (t : Bool) (x : ℕ) → (tally t + 2 * x) / 2 ≡ x
    up true x = omega arith
    up false x = omega arith

dividing_lt : (ps : List ℕ) (v : ℕ) → dividing ps v < 2 ^ length ps
unfolding dividing
dividing_lt [] v = omega arith
dividing_lt (p ∷ ps) v = fits (divides p v) (dividing ps v) (dividing_lt ps v)
  where
    fits : (t : Bool) (x : ℕ) → x < 2 ^ length ps → tally t + 2 * x < 2 ^ suc (length ps)
    fits true x l = let e = pow-suc 2 (length ps) in omega arith
    fits false x l = let e = pow-suc 2 (length ps) in omega arith

pub letter_lt : (v : ℕ) → letter_of v < 2 ^ 9
unfolding letter_of primes
letter_lt v = dividing_lt primes v

pub letter_digit : (v b : ℕ) → b < 9 → digit b (letter_of v) ≡ tally (divides (prime b) v)
unfolding letter_of prime primes
letter_digit v b h = digit_dividing primes v b h

-- a letter, as a product, and back
pub letter_again : (c : ℕ) → c < 2 ^ 9 → letter_of (product_of c) ≡ c
letter_again c h = digit_ext 9 (letter_of (product_of c)) c (letter_lt (product_of c)) h same
  where
    same : (b : ℕ) → b < 9 → digit b (letter_of (product_of c)) ≡ digit b c
    same b l =
        letter_digit (product_of c) b l
        ∙ bool_cases (divides (prime b) (product_of c))
        (λ y. ap tally y ∙ sym (prime_member b c l (divides_true (prime b) (product_of c) y)))
        (λ n. ap tally n ∙ sym (none b l n))
      where
        none : (b : ℕ) → b < 9 → divides (prime b) (product_of c) ≡ false → digit b c ≡ 0
        none b l n =
            let u = digit_lt b c in
            ⊎_elim (λ z. z)
            (λ (p : 0 < digit b c).
            let y = true_divides (prime b) (product_of c) (member_prime b c l (omega arith)) in
            absurd (let x : true ≡ false = sym y ∙ n in let v : ◌≡◌ {A = ℕ} 0 1 = cc in omega arith))
            (eq-zero-or-pos (digit b c))

-- ---- the alphabets of 1 to 9
primes_take : (k : ℕ) (ps : List ℕ) → Primes ps → Primes (take k ps)
unfolding Primes
primes_take zero ps pr = tt
primes_take (suc k) [] pr = tt
primes_take (suc k) (p ∷ ps) pr = (pr.0, primes_take k ps pr.1)

first_length : (k : ℕ) → k ≤ 9 → length (take k primes) ≡ k
unfolding primes
first_length k h = eqb→eq _ _ (below_at 10 (λ k. eqb (length (take k primes)) k) tt k (omega arith))

module _ (k : ℕ) (h : k ≤ 9) where
  within : (c : ℕ) → c < 2 ^ k → c < 2 ^ 9
  within c l = lt_of_lt_of_le l (pow_mono h)

  -- a letter's product divides the product of the first k primes
  pub divides_first : (c : ℕ) → c < 2 ^ k → product_of c ∣ first_product k
  unfolding first_product
  divides_first c l = rw (by_digits c, ← set_take k primes c l) (set_divides (take k primes) c)

  -- a value is taken exactly if it is above 0 and divides the product of the first k primes
  pub taken : (v : ℕ) → is_product k v ≡ true → (0 < v) × (v ∣ first_product k)
  unfolding is_product
  taken v e =
      (ltb-true 0 v (and_true_l (ltb 0 v) (divides v (first_product k)) e), divides_true v (first_product k) (and_true_r (ltb 0 v) (divides v (first_product k)) e))

  pub takes : (v : ℕ) → 0 < v → v ∣ first_product k → is_product k v ≡ true
  unfolding is_product
  takes v l d = rw (lt-ltb 0 v l, true_divides v (first_product k) d)

  -- a letter's product is taken
  pub letter_taken : (c : ℕ) → bad true k c ≡ false → is_product k (product_of c) ≡ true
  letter_taken c g = takes (product_of c) (product_pos c) (divides_first c (good_small k true c g))

  -- a value that is taken is a letter's product
  pub letter_for : (v : ℕ) → is_product k v ≡ true → (c : ℕ) × (bad true k c ≡ false) × (product_of c ≡ v)
  unfolding first_product
  letter_for v e =
      let t = taken v e in
      let w = as_set (take k primes) (primes_take k primes nine) v t.1 in
      let l : w.0 < 2 ^ k = subst (λ (n : ℕ). w.0 < 2 ^ n) (first_length k h) w.1 in
      let q : product_of w.0 ≡ v = by_digits w.0 ∙ sym (set_take k primes w.0 l) ∙ sym w.2 in
      (w.0, good k true w.0 (λ z. refl) l, q)

  -- two letters with the same product are one
  pub same_product : (c d : ℕ) → bad true k c ≡ false → bad true k d ≡ false → product_of c ≡ product_of d → c ≡ d
  same_product c d x y e =
      sym (letter_again c (within c (good_small k true c x))) ∙ ap letter_of e ∙ letter_again d (within d (good_small k true d y))

  -- a value, as a letter, and back
  pub letter_is : (v c : ℕ) → bad true k c ≡ false → product_of c ≡ v → letter_of v ≡ c
  letter_is v c g e = ap letter_of (sym e) ∙ letter_again c (within c (good_small k true c g))

  pub letter_good : (v : ℕ) → is_product k v ≡ true → bad true k (letter_of v) ≡ false
  letter_good v e = let w = letter_for v e in ap (bad true k) (letter_is v w.0 w.1 w.2) ∙ w.1

  pub product_again : (v : ℕ) → is_product k v ≡ true → product_of (letter_of v) ≡ v
  product_again v e = let w = letter_for v e in ap product_of (letter_is v w.0 w.1 w.2) ∙ w.2

  -- the letter that a value is the product of, and no other
  pub record One (v c : ℕ) : Type 0 where
    pub over : bad true k c ≡ false
    pub makes : product_of c ≡ v
    pub only : (d : ℕ) → bad true k d ≡ false → product_of d ≡ v → d ≡ c

  -- exactly the values that are taken are products of exactly one letter
  pub one_letter : (v : ℕ) → is_product k v ≡ true → (c : ℕ) × One v c
  one_letter v e =
      let w = letter_for v e in
      (w.0, record { over = w.1; makes = w.2; only = λ d g q. same_product d w.0 g w.1 (q ∙ sym w.2) })

  pub letter_one : (v c : ℕ) → One v c → is_product k v ≡ true
  letter_one v c o = subst (λ (x : ℕ). is_product k x ≡ true) o.makes (letter_taken c o.over)

-- and 1 gives the mark back
pub one_none : letter_of 1 ≡ 0
one_none = ap letter_of (sym product_none) ∙ letter_again 0 (pow_pos 9)

-- all nine
pub all_nine : first_product 9 ≡ 223092870
unfolding first_product product primes
all_nine = refl
