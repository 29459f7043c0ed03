-- The product of a set of numbers from a list: by the set's lowest digit and the rest. Assumes nothing.
use mathlib.Core.Path.{◌≡◌, refl, sym, ap, ◌∙◌, subst}
use mathlib.Core.List.{List, [], ◌∷◌, map}
use mathlib.Core.Logic.{◌⊎◌, inl, inr, ⊎_elim}
use Prim.Native.Nat.{ℕ, zero, suc, ◌+◌, ◌*◌, ◌/◌, ◌%◌, ◌^◌, ◌≤◌, ◌<◌, ◌∣◌}
use native.Mathlib.Nat.{eq-zero-or-pos, zero-lt-suc, le_of_suc-le-suc, dvd_refl, dvd-mul_right, dvd-mul_left_of_dvd, mul-dvd-mul_left, le_of_dvd, pos_of_dvd_of_pos, mul-div_cancel', one-mul, mul_assoc, eq_of_mul-eq-mul_left, pow-suc, mul-pos, le_antisymm}
use native.Mathlib.Omega.{arith}
use borrow.Author.Tests.{eq-eqb, ne_eqb}
use lib.Arith.{lt-one}
use lib.ListN.{length, get_or, take}
use Rattle.letters.specs.Digits.{digit}
use Rattle.letters.specs.Letters.{member}
use Rattle.letters.specs.Members.{members_from}
use Rattle.products.specs.Primes.{product}
use Rattle.products.proofs.Divisors.{Prime, strip}

-- p where the digit is set, else 1
abbrev pub factor : ℕ → ℕ → ℕ
factor zero p = 1
factor (suc d) p = p

-- the product of those numbers at the places of x's set digits
unfoldable pub set_product : List ℕ → ℕ → ℕ
set_product [] x = 1
set_product (p ∷ ps) x = factor (x % 2) p * set_product ps (x / 2)

pub even_or_odd : (x : ℕ) → (x % 2 ≡ 0) ⊎ (x % 2 ≡ 1)
even_or_odd x = ⊎_elim (λ z. inl z) (λ z. inr (omega arith)) (eq-zero-or-pos (x % 2))

module _ (p : ℕ) (ps : List ℕ) (x : ℕ) where
  pub with_it : x % 2 ≡ 1 → set_product (p ∷ ps) x ≡ p * set_product ps (x / 2)
  unfolding set_product
  with_it e = ap (λ (d : ℕ). factor d p * set_product ps (x / 2)) e

  pub without_it : x % 2 ≡ 0 → set_product (p ∷ ps) x ≡ set_product ps (x / 2)
  unfolding set_product
  without_it e = ap (λ (d : ℕ). factor d p * set_product ps (x / 2)) e ∙ one-mul (set_product ps (x / 2))

-- the product of Q's numbers at the members of c among the f from b on
abbrev pub member_product : List ℕ → ℕ → ℕ → ℕ → ℕ
member_product Q c b f = product (map (λ i. get_or Q i 1) (members_from c b f))

-- it is the product over the set's members. Q has these numbers from b on, and c these digits
pub over_members : (Q : List ℕ) (c : ℕ) (ps : List ℕ) (b x : ℕ) → ((i : ℕ) → get_or Q (b + i) 1 ≡ get_or ps i 1) → ((i : ℕ) → digit (b + i) c ≡ digit i x)
    → member_product Q c b (length ps) ≡ set_product ps x
unfolding product members_from set_product digit member
over_members Q c [] b x hq hc = refl
over_members Q c (p ∷ ps) b x hq hc =
    let rest =
    over_members Q c ps (suc b) (x / 2)
    (λ i. let s : suc b + i ≡ b + suc i = omega arith in ap (λ (j : ℕ). get_or Q j 1) s ∙ hq (suc i))
    (λ i. let s : suc b + i ≡ b + suc i = omega arith in ap (λ (j : ℕ). digit j c) s ∙ hc (suc i)) in
    ⊎_elim (out rest) (has rest) (even_or_odd x)
  where
    z : b + 0 ≡ b
    z = omega arith

    low : digit b c ≡ x % 2
    low = ap (λ (i : ℕ). digit i c) (sym z) ∙ hc 0

    out : member_product Q c (suc b) (length ps) ≡ set_product ps (x / 2) → x % 2 ≡ 0 → member_product Q c b (length (p ∷ ps)) ≡ set_product (p ∷ ps) x
    out rest e = rw (ne_eqb (digit b c) 1 (λ y. omega (arith, low))) (rest ∙ sym (without_it p ps x e))

    has : member_product Q c (suc b) (length ps) ≡ set_product ps (x / 2) → x % 2 ≡ 1 → member_product Q c b (length (p ∷ ps)) ≡ set_product (p ∷ ps) x
    has rest e =
        rw (eq-eqb (digit b c) 1 (low ∙ e))
        (ap (λ (y : ℕ). y * member_product Q c (suc b) (length ps)) (ap (λ (j : ℕ). get_or Q j 1) (sym z) ∙ hq 0) ∙ ap (λ (y : ℕ). p * y) rest ∙ sym (with_it p ps x e))

-- the empty set's product
pub set_none : (ps : List ℕ) → set_product ps 0 ≡ 1
unfolding set_product
set_none [] = refl
set_none (p ∷ ps) = one-mul (set_product ps 0) ∙ set_none ps

-- a set of the first k needs the first k numbers alone
pub set_take : (k : ℕ) (ps : List ℕ) (x : ℕ) → x < 2 ^ k → set_product (take k ps) x ≡ set_product ps x
unfolding set_product
set_take zero ps x h = sym (ap (set_product ps) (lt-one h) ∙ set_none ps)
set_take (suc k) [] x h = refl
set_take (suc k) (p ∷ ps) x h =
    ap (λ (y : ℕ). factor (x % 2) p * y) (set_take k ps (x / 2) (let e = pow-suc 2 k in omega arith))

-- a member's number divides the product
pub member_divides : (ps : List ℕ) (x i : ℕ) → i < length ps → digit i x ≡ 1 → get_or ps i 1 ∣ set_product ps x
unfolding digit
member_divides [] x i h b = absurd (omega arith)
member_divides (p ∷ ps) x zero h b = rw (with_it p ps x b) (dvd-mul_right p (set_product ps (x / 2)))
member_divides (p ∷ ps) x (suc i) h b =
    let r = member_divides ps (x / 2) i (le_of_suc-le-suc h) b in
    ⊎_elim (λ z. rw (without_it p ps x z) r) (λ z. rw (with_it p ps x z) (dvd-mul_left_of_dvd (get_or ps i 1) r p)) (even_or_odd x)

-- a set's product divides the product of all
pub set_divides : (ps : List ℕ) (x : ℕ) → set_product ps x ∣ product ps
unfolding set_product product
set_divides [] x = dvd_refl 1
set_divides (p ∷ ps) x =
    let r = set_divides ps (x / 2) in
    ⊎_elim (λ z. rw (without_it p ps x z) (dvd-mul_left_of_dvd (set_product ps (x / 2)) r p))
    (λ z. rw (with_it p ps x z) (mul-dvd-mul_left (set_product ps (x / 2)) p r))
    (even_or_odd x)

-- all of these are primes
unfoldable pub Primes : List ℕ → Type 0
Primes [] = Unit {0}
Primes (p ∷ ps) = ((0 < p) × Prime p) × Primes ps

pub positive : (ps : List ℕ) → Primes ps → (x : ℕ) → 0 < set_product ps x
unfolding Primes set_product
positive [] pr x = zero-lt-suc zero
positive (p ∷ ps) pr x =
    let r = positive ps pr.1 (x / 2) in
    ⊎_elim (λ z. rw (without_it p ps x z) r) (λ z. rw (with_it p ps x z) (mul-pos pr.0.0 r)) (even_or_odd x)

-- a member of x whose number is such
abbrev pub Found : List ℕ → ℕ → (ℕ → Type 0) → Type 0
Found ps x P = (i : ℕ) × (i < length ps) × (digit i x ≡ 1) × P (get_or ps i 1)

more : (p : ℕ) (ps : List ℕ) (x : ℕ) (P : ℕ → Type 0) → Found ps (x / 2) P → Found (p ∷ ps) x P
unfolding digit
more p ps x P f = (suc f.0, omega (arith, f.1), f.2, f.3)

here : (p : ℕ) (ps : List ℕ) (x : ℕ) (P : ℕ → Type 0) → x % 2 ≡ 1 → P p → Found (p ∷ ps) x P
unfolding digit
here p ps x P z k = (0, zero-lt-suc (length ps), z, k)

-- a divisor of the product is 1, or a member's prime divides it
pub some_member : (ps : List ℕ) → Primes ps → (x g : ℕ) → g ∣ set_product ps x → (g ≤ 1) ⊎ Found ps x (λ p. p ∣ g)
unfolding Primes set_product
some_member [] pr x g d = inl (le_of_dvd (zero-lt-suc zero) d)
some_member (p ∷ ps) pr x g d =
    let rest : g ∣ set_product ps (x / 2) → (g ≤ 1) ⊎ Found (p ∷ ps) x (λ p. p ∣ g) =
    λ k. ⊎_elim (λ z. inl z) (λ f. inr (more p ps x (λ p. p ∣ g) f)) (some_member ps pr.1 (x / 2) g k) in
    ⊎_elim (λ z. rest (subst (λ (y : ℕ). g ∣ y) (without_it p ps x z) d))
    (λ z. ⊎_elim (λ k. inr (here p ps x (λ p. p ∣ g) z k)) rest
    (strip p (set_product ps (x / 2)) g pr.0.0 pr.0.1 (subst (λ (y : ℕ). g ∣ y) (with_it p ps x z) d)))
    (even_or_odd x)

-- a prime that divides the product divides a member's
pub which_member : (ps : List ℕ) (q : ℕ) → 1 < q → Prime q → (x : ℕ) → q ∣ set_product ps x → Found ps x (λ p. q ∣ p)
unfolding set_product
which_member [] q h pr x d = absurd (let l : q ≤ 1 = le_of_dvd (zero-lt-suc zero) d in omega arith)
which_member (p ∷ ps) q h pr x d =
    let rest : q ∣ set_product ps (x / 2) → Found (p ∷ ps) x (λ p. q ∣ p) =
    λ k. more p ps x (λ p. q ∣ p) (which_member ps q h pr (x / 2) k) in
    ⊎_elim (λ z. rest (subst (λ (y : ℕ). q ∣ y) (without_it p ps x z) d))
    (λ z. ⊎_elim (λ k. here p ps x (λ p. q ∣ p) z k) rest (pr p (set_product ps (x / 2)) (subst (λ (y : ℕ). q ∣ y) (with_it p ps x z) d)))
    (even_or_odd x)

odd : (p : ℕ) (ps : List ℕ) (x : ℕ) → set_product (p ∷ ps) (x * 2 + 1) ≡ p * set_product ps x
odd p ps x =
    let h : (x * 2 + 1) / 2 ≡ x = omega arith in
    with_it p ps (x * 2 + 1) (omega arith) ∙ ap (λ (y : ℕ). p * set_product ps y) h

even : (p : ℕ) (ps : List ℕ) (x : ℕ) → set_product (p ∷ ps) (x * 2) ≡ set_product ps x
even p ps x = let h : x * 2 / 2 ≡ x = omega arith in without_it p ps (x * 2) (omega arith) ∙ ap (λ (y : ℕ). set_product ps y) h

-- a divisor of the product of all is the product of a set
pub as_set : (ps : List ℕ) → Primes ps → (v : ℕ) → v ∣ product ps → (x : ℕ) × (x < 2 ^ length ps) × (v ≡ set_product ps x)
unfolding product Primes set_product
as_set [] pr v d = (0, zero-lt-suc zero, le_antisymm (le_of_dvd (zero-lt-suc zero) d) (pos_of_dvd_of_pos d (zero-lt-suc zero)))
as_set (p ∷ ps) pr v d =
    let w = pow-suc 2 (length ps) in
    ⊎_elim
    (λ (k : p ∣ v).
    let q = v / p in
    let e : v ≡ p * q = sym (mul-div_cancel' p k) in
    let r = p * product ps / v in
    let f : p * product ps ≡ p * (q * r) = sym (mul-div_cancel' v d) ∙ ap (λ (y : ℕ). y * r) e ∙ mul_assoc p q r in
    let g : product ps ≡ q * r = eq_of_mul-eq-mul_left p pr.0.0 (product ps) (q * r) f in
    let s = as_set ps pr.1 q (subst (λ (y : ℕ). q ∣ y) (sym g) (dvd-mul_right q r)) in
    (s.0 * 2 + 1, omega (arith, s.1), e ∙ ap (λ (y : ℕ). p * y) s.2 ∙ sym (odd p ps s.0)))
    (λ k. let s = as_set ps pr.1 v k in (s.0 * 2, omega (arith, s.1), s.2 ∙ sym (even p ps s.0)))
    (strip p (product ps) v pr.0.0 pr.0.1 d)
