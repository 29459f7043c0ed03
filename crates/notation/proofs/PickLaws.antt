-- Laws of `pick`: the members of a set. Assumes nothing.
use mathlib.Core.Path.{◌≡◌, refl, sym, ap, ◌∙◌}
use mathlib.Core.List.{List, [], ◌∷◌, ◌++◌, map}
use Prim.Native.Nat.{ℕ, zero, suc, ◌+◌, ◌-◌, ◌*◌, ◌/◌, ◌%◌, ◌^◌, ◌≤◌, ◌<◌}
use native.Mathlib.Nat.{pow-suc, one-mul}
use native.Mathlib.Omega.{arith}
use borrow.Author.Tests.{eqb-true, eqb-false}
use lib.Arith.{lt-one}
use lib.Dec.{eqb, lit<}
use lib.ListN.{length, get_or}
use lib.Pow.{pow_pos, shl_exact}
use Rattle.letters.specs.Letters.{member}
use Rattle.letters.specs.Members.{members_from, members}
use Rattle.letters.proofs.Truth.{bool_cases}
use Rattle.letters.proofs.DigitLaws.{digit_low, digit_up}
use Rattle.letters.proofs.LetterLaws.{digit_member, no_member}
use Rattle.notation.specs.Spelling.{pick}

-- a digit is 1 or 0
pub parity {ℓ} : {R : Type ℓ} (c : ℕ) → (c % 2 ≡ 1 → R) → (c % 2 ≡ 0 → R) → R
parity c y n = bool_cases (eqb (c % 2) 1) (λ e. y (eqb-true _ _ e)) (λ e. let h = eqb-false (c % 2) 1 e in n (omega arith))

-- the members above the lowest, one place down
members_up : (c b f : ℕ) → members_from c (suc b) f ≡ map suc (members_from (c / 2) b f)
unfolding members_from member
members_up c b zero = refl
members_up c b (suc f) =
    bool_cases (member b (c / 2))
    (λ y. rw (up ∙ y, y) (ap (λ (xs : List ℕ). suc b ∷ xs) (members_up c (suc b) f)))
    (λ n. rw (up ∙ n, n) (members_up c (suc b) f))
  where
    up : member (suc b) c ≡ member b (c / 2)
    up = ap (λ (d : ℕ). eqb d 1) (digit_up b c)

bytes_up : (a : ℕ) (A xs : List ℕ) → map (λ b. get_or (a ∷ A) b 0) (map suc xs) ≡ map (λ b. get_or A b 0) xs
bytes_up a A [] = refl
bytes_up a A (x ∷ xs) = ap (λ (ys : List ℕ). get_or A x 0 ∷ ys) (bytes_up a A xs)

-- picking, letter by letter
pub pick_nil : (c : ℕ) → pick [] c ≡ []
unfolding pick members members_from
pick_nil c = refl

module _ (a : ℕ) (A : List ℕ) (c : ℕ) where
  above : map (λ b. get_or (a ∷ A) b 0) (members_from c 1 (length A)) ≡ pick A (c / 2)
  unfolding pick members
  above = ap (map (λ b. get_or (a ∷ A) b 0)) (members_up c 0 (length A)) ∙ bytes_up a A (members_from (c / 2) 0 (length A))

  pub pick_odd : c % 2 ≡ 1 → pick (a ∷ A) c ≡ a ∷ pick A (c / 2)
  unfolding pick members members_from
  pick_odd e = rw (digit_member 0 c (digit_low c ∙ e)) (ap (λ (xs : List ℕ). a ∷ xs) above)

  pub pick_even : c % 2 ≡ 0 → pick (a ∷ A) c ≡ pick A (c / 2)
  unfolding pick members members_from
  pick_even e = rw (no_member 0 c (digit_low c ∙ e)) above

pub pick_zero : (A : List ℕ) → pick A 0 ≡ []
pick_zero [] = pick_nil 0
pick_zero (a ∷ A) = pick_even a A 0 refl ∙ pick_zero A

-- a member above all others goes to the end
pub pick_snoc : (A : List ℕ) (j S : ℕ) → j < length A → S < 2 ^ j → pick A (S + 2 ^ j) ≡ pick A S ++ (get_or A j 0 ∷ [])
pick_snoc [] j S h l = absurd (omega arith)
pick_snoc (a ∷ A) zero S h l =
    let z : S ≡ 0 = omega arith in
    rw z (pick_odd a A 1 refl ∙ ap (λ (xs : List ℕ). a ∷ xs) (pick_zero A) ∙ ap (λ (xs : List ℕ). xs ++ (a ∷ [])) (sym (pick_zero (a ∷ A))))
pick_snoc (a ∷ A) (suc j) S h l =
    let p = pow-suc 2 j in
    let q : (S + 2 ^ suc j) / 2 ≡ S / 2 + 2 ^ j = omega arith in
    let ih = pick_snoc A j (S / 2) (omega arith) (omega arith) in
    parity S
    (λ e. pick_odd a A (S + 2 ^ suc j) (omega arith) ∙ ap (λ (x : ℕ). a ∷ pick A x) q ∙ ap (λ (xs : List ℕ). a ∷ xs) ih ∙ ap (λ (xs : List ℕ). xs ++ (get_or A j 0 ∷ [])) (sym (pick_odd a A S e)))
    (λ e. pick_even a A (S + 2 ^ suc j) (omega arith) ∙ ap (pick A) q ∙ ih ∙ ap (λ (xs : List ℕ). xs ++ (get_or A j 0 ∷ [])) (sym (pick_even a A S e)))

pub length_pick : (A : List ℕ) (c : ℕ) → length (pick A c) ≤ length A
length_pick [] c = omega (arith, ap length (pick_nil c))
length_pick (a ∷ A) c =
    parity c (λ e. omega (arith, ap length (pick_odd a A c e), length_pick A (c / 2))) (λ e. omega (arith, ap length (pick_even a A c e), length_pick A (c / 2)))

-- no member: the empty set
pub pick_none : (A : List ℕ) (c : ℕ) → c < 2 ^ length A → length (pick A c) ≡ 0 → c ≡ 0
pick_none [] c h e = lt-one h
pick_none (a ∷ A) c h e =
    let p = pow-suc 2 (length A) in
    parity c
    (λ o. absurd (omega (arith, ap length (pick_odd a A c o))))
    (λ o. omega (arith, pick_none A (c / 2) (omega arith) (sym (ap length (pick_even a A c o)) ∙ e)))

-- one member
pub record One (A : List ℕ) (c : ℕ) : Type 0 where
  pub number : ℕ
  pub below : number < length A
  pub power : c ≡ 2 ^ number
  pub member : pick A c ≡ get_or A number 0 ∷ []

pub pick_one : (A : List ℕ) (c : ℕ) → c < 2 ^ length A → length (pick A c) ≡ 1 → One A c
pick_one [] c h e = absurd (omega (arith, ap length (pick_nil c)))
pick_one (a ∷ A) c h e =
    let p = pow-suc 2 (length A) in
    parity c
    (λ o. let n : length (pick A (c / 2)) ≡ 0 = omega (arith, ap length (pick_odd a A c o)) in
    let z = pick_none A (c / 2) (omega arith) n in
    record { number = 0; below = omega arith; power = omega arith; member = pick_odd a A c o ∙ ap (λ (x : ℕ). a ∷ pick A x) z ∙ ap (λ (xs : List ℕ). a ∷ xs) (pick_zero A) })
    (λ o. let w = pick_one A (c / 2) (omega arith) (sym (ap length (pick_even a A c o)) ∙ e) in
    record { number = suc w.number; below = omega (arith, w.below); power = omega (arith, w.power, pow-suc 2 w.number); member = pick_even a A c o ∙ w.member })

-- all members
pub pick_full : (A : List ℕ) (c : ℕ) → c < 2 ^ length A → length (pick A c) ≡ length A → c ≡ 2 ^ length A - 1
pick_full [] c h e = lt-one h
pick_full (a ∷ A) c h e =
    let p = pow-suc 2 (length A) in
    parity c
    (λ o. let w = pick_full A (c / 2) (omega arith) (omega (arith, ap length (pick_odd a A c o))) in omega arith)
    (λ o. absurd (omega (arith, ap length (pick_even a A c o), length_pick A (c / 2))))

pub pick_all : (A : List ℕ) → length (pick A (2 ^ length A - 1)) ≡ length A
pick_all [] = ap length (pick_nil (2 ^ 0 - 1))
pick_all (a ∷ A) =
    let p = pow-suc 2 (length A) in
    let z = pow_pos (length A) in
    let q : (2 ^ suc (length A) - 1) / 2 ≡ 2 ^ length A - 1 = omega arith in
    ap length (pick_odd a A (2 ^ suc (length A) - 1) (omega arith) ∙ ap (λ (x : ℕ). a ∷ pick A x) q) ∙ ap suc (pick_all A)

-- a shift of 1, the set of one letter
pub shift_one : (w j : ℕ) → j < w → 1 * 2 ^ j % 2 ^ w ≡ 2 ^ j
shift_one w j h = shl_exact {a = 1} 1 j w (lit< tt) (omega arith) ∙ one-mul (2 ^ j)
