-- Laws of letters: what meeting means, and what a comparison tells of it; that it is symmetric and not transitive, what single and unsure mean, and that a letter is the mark, single or unsure. Assumes nothing.
use mathlib.Core.Path.{◌≡◌, refl, sym, ap, ◌∙◌, subst}
use mathlib.Core.Bool.{Bool, true, false, not}
use mathlib.Core.Logic.{◌⊎◌, inl, inr, ⊎_elim}
use Prim.Native.Nat.{ℕ, zero, suc, ◌/◌, ◌%◌, ◌^◌, ◌≤◌, ◌<◌}
use native.Mathlib.Nat.{eq-zero-or-pos, eq-or-lt_of_le, pow-suc}
use native.Mathlib.Omega.{arith}
use borrow.Author.Tests.{eq-eqb, ne_eqb, eqb-true, eqb-false, not-true, leb-true, leb-false, le-leb, lt-leb}
use lib.Arith.{lt-one}
use lib.Bits.{bit_and, and_comm, and_zero_r}
use lib.Count.{ones, ones_step}
use lib.Dec.{eqb, leb}
use lib.Pow.{pow_pos}
use Rattle.letters.specs.Digits.{digit}
use Rattle.letters.specs.Letters.{member, shared, meets, single, unsure}
use Rattle.letters.proofs.Truth.{bool_cases, both_ways}
use Rattle.letters.proofs.DigitLaws.{digit_lt, digit_zero, digit_and, digit_above, digit_ext, digits_same, some_digit, below_power}

-- membership, by the digit
pub member_digit : (b c : ℕ) → member b c ≡ true → digit b c ≡ 1
unfolding member
member_digit b c e = eqb-true _ _ e

pub digit_member : (b c : ℕ) → digit b c ≡ 1 → member b c ≡ true
unfolding member
digit_member b c e = eq-eqb _ _ e

pub no_member : (b c : ℕ) → digit b c ≡ 0 → member b c ≡ false
unfolding member
no_member b c e = ne_eqb (digit b c) 1 (λ z. omega arith)

-- a member of the shared set is a member of both
pub shared_member : (a b c : ℕ) → member c (shared a b) ≡ true → (member c a ≡ true) × (member c b ≡ true)
unfolding shared
shared_member a b c e =
    let d = digit_and c a b in
    let h = member_digit c (bit_and a b) e in
    let l = digit_lt c a in
    let m = digit_lt c b in
    (digit_member c a (omega arith), digit_member c b (omega arith))

pub member_shared : (a b c : ℕ) → member c a ≡ true → member c b ≡ true → member c (shared a b) ≡ true
unfolding shared
member_shared a b c x y =
    let d = digit_and c a b in
    let h = member_digit c a x in
    let k = member_digit c b y in
    digit_member c (bit_and a b) (omega arith)

-- two letters meet exactly if some base letter is a member of both
pub meets_some : (a b : ℕ) → meets a b ≡ true → (c : ℕ) × (member c a ≡ true) × (member c b ≡ true)
unfolding meets
meets_some a b e =
    let n = eqb-false (shared a b) 0 (not-true _ e) in
    let w = some_digit (shared a b) (shared a b) (below_power (shared a b)) n in
    let m = shared_member a b w.0 (digit_member w.0 (shared a b) w.2) in
    (w.0, m.0, m.1)

pub some_meets : (a b c : ℕ) → member c a ≡ true → member c b ≡ true → meets a b ≡ true
unfolding meets
some_meets a b c x y =
    let m = member_digit c (shared a b) (member_shared a b c x y) in
    ap not (ne_eqb (shared a b) 0 (λ z. let d = ap (digit c) z ∙ digit_zero c in omega arith))

-- What a comparison answers, the shared set, tells whether the two meet: it is 0 exactly where they do not
pub record Tells (a b s : ℕ) : Type 0 where
  pub none : s ≡ 0 → meets a b ≡ false
  pub some : (s ≡ 0 → ⊥) → meets a b ≡ true

pub compared : {a b s : ℕ} → s ≡ shared a b → Tells a b s
unfolding meets
compared e = record { none = λ z. rw (sym e ∙ z); some = λ n. rw (ne_eqb _ 0 (λ z. n (e ∙ z))) }

-- the entry mark shares nothing, and meets nothing
pub shared_mark : (a : ℕ) → shared a 0 ≡ 0
unfolding shared
shared_mark a = and_zero_r a

pub none_meets : (a : ℕ) → meets a 0 ≡ false
none_meets a = (compared refl).none (shared_mark a)

pub meets_none : (b : ℕ) → meets 0 b ≡ false
unfolding meets shared
meets_none b = refl

pub meets_sym : (a b : ℕ) → meets a b ≡ meets b a
unfolding meets shared
meets_sym a b = rw (and_comm a b)

-- meeting is not transitive: a meets [an], and [an] meets n, but a does not meet n. Base letters a, e, n: 1, 2, 4
pub not_transitive : (meets 1 5 ≡ true) × (meets 5 4 ≡ true) × (meets 1 4 ≡ false)
unfolding meets shared
not_transitive = (refl, refl, refl)

-- a letter has a bit at or above k exactly if it has such a member
pub high_member : (k c : ℕ) → 2 ^ k ≤ c → (b : ℕ) × (k ≤ b) × (member b c ≡ true)
unfolding digit
high_member k c h = let w = go k c h in (w.0, w.1, digit_member w.0 c w.2)
  where
    go : (k c : ℕ) → 2 ^ k ≤ c → (b : ℕ) × (k ≤ b) × (digit b c ≡ 1)
    go zero c h =
        let w = some_digit c c (below_power c) (λ z. omega arith) in (w.0, omega arith, w.2)
    go (suc k) c h =
        let w = go k (c / 2) (let p = pow-suc 2 k in omega arith) in (suc w.0, omega (arith, w.1), w.2)

pub member_high : (k c b : ℕ) → k ≤ b → member b c ≡ true → 2 ^ k ≤ c
member_high k c b l e =
    ⊎_elim (λ (h : c < 2 ^ k). absurd (let z = digit_above k b c h l in let m = member_digit b c e in omega arith)) (λ h. h) (less_or (2 ^ k) c)
  where
    less_or : (x y : ℕ) → (y < x) ⊎ (x ≤ y)
    less_or x y = bool_cases (leb x y) (λ q. inr (leb-true _ _ q)) (λ q. inl (leb-false _ _ q))

-- one member, and no other
pub record One (c b : ℕ) : Type 0 where
  pub has : member b c ≡ true
  pub only : (j : ℕ) → member j c ≡ true → j ≡ b

ones_zero : ones 0 ≡ 0
unfolding ones
ones_zero = refl

ones_none : (k x : ℕ) → x < 2 ^ k → ones x ≡ 0 → x ≡ 0
ones_none zero x h e = lt-one h
ones_none (suc k) x h e =
    let s = ones_step x in
    let p = pow-suc 2 k in
    let z : x / 2 ≡ 0 = ones_none k (x / 2) (omega arith) (omega arith) in
    omega arith

-- a letter is single exactly if it has one member
pub single_one : (c : ℕ) → single c ≡ true → (b : ℕ) × One c b
unfolding single digit
single_one c e =
    let w = go c c (below_power c) (eqb-true _ _ e) in
    (w.0, record { has = digit_member w.0 c w.1; only = λ j m. w.2 j (member_digit j c m) })
  where
    go : (k x : ℕ) → x < 2 ^ k → ones x ≡ 1 → (b : ℕ) × (digit b x ≡ 1) × ((j : ℕ) → digit j x ≡ 1 → j ≡ b)
    go zero x h e = absurd (let z = ap ones (lt-one h) in let s = ones_zero in omega arith)
    go (suc k) x h e =
        let s = ones_step x in
        let p = pow-suc 2 k in
        ⊎_elim
        (λ (q : x % 2 ≡ 0). let ih = go k (x / 2) (omega arith) (omega arith) in (suc ih.0, ih.1, up q ih.0 ih.2))
        (λ (q : 0 < x % 2). (0, omega arith, alone (ones_none k (x / 2) (omega arith) (omega arith))))
        (eq-zero-or-pos (x % 2))
      where
        up : x % 2 ≡ 0 → (b : ℕ) → ((j : ℕ) → digit j (x / 2) ≡ 1 → j ≡ b) → (j : ℕ) → digit j x ≡ 1 → j ≡ suc b
        up q b f zero d = absurd (omega arith)
        up q b f (suc j) d = ap suc (f j d)

        alone : x / 2 ≡ 0 → (j : ℕ) → digit j x ≡ 1 → j ≡ 0
        alone z zero d = refl
        alone z (suc j) d = absurd (let f : digit j (x / 2) ≡ 0 = ap (digit j) z ∙ digit_zero j in omega arith)

pub one_single : (c b : ℕ) → One c b → single c ≡ true
unfolding single digit
one_single c b o = eq-eqb _ _ (go c c b (below_power c) (member_digit b c o.has) (λ j d. o.only j (digit_member j c d)))
  where
    go : (k x b : ℕ) → x < 2 ^ k → digit b x ≡ 1 → ((j : ℕ) → digit j x ≡ 1 → j ≡ b) → ones x ≡ 1
    go zero x b h m u = absurd (let z : digit b x ≡ 0 = ap (digit b) (lt-one h) ∙ digit_zero b in omega arith)
    go (suc k) x zero h m u =
        let p = pow-suc 2 k in
        let z : x / 2 ≡ 0 = digit_ext k (x / 2) 0 (omega arith) (pow_pos k) (λ j l. none j) in
        let s = ones_step x in
        let w = ap ones z in
        let v = ones_zero in
        omega arith
      where
        none : (j : ℕ) → digit j (x / 2) ≡ digit j 0
        none j =
            let l = digit_lt j (x / 2) in
            let e = digit_zero j in
            ⊎_elim (λ (q : digit j (x / 2) ≡ 0). q ∙ sym e) (λ (g : 0 < digit j (x / 2)). absurd (let f : suc j ≡ 0 = u (suc j) (omega arith) in omega arith))
            (eq-zero-or-pos (digit j (x / 2)))
    go (suc k) x (suc b) h m u =
        let p = pow-suc 2 k in
        let s = ones_step x in
        let ih = go k (x / 2) b (omega arith) m (λ j g. let e = u (suc j) g in omega arith) in
        ⊎_elim (λ (z : x % 2 ≡ 0). omega arith) (λ (g : 0 < x % 2). absurd (let e : 0 ≡ suc b = u 0 (omega arith) in omega arith)) (eq-zero-or-pos (x % 2))

-- a letter is unsure exactly if it has two members
pub record Two (c a b : ℕ) : Type 0 where
  pub one : member a c ≡ true
  pub other : member b c ≡ true
  pub differ : a ≡ b → ⊥

pub unsure_two : (c : ℕ) → unsure c ≡ true → (a : ℕ) × (b : ℕ) × Two c a b
unfolding unsure digit
unsure_two c e =
    let w = go c c (below_power c) (leb-true _ _ e) in
    (w.0, w.1, record { one = digit_member w.0 c w.2; other = digit_member w.1 c w.3; differ = w.4 })
  where
    go : (k x : ℕ) → x < 2 ^ k → 2 ≤ ones x → (a : ℕ) × (b : ℕ) × (digit a x ≡ 1) × (digit b x ≡ 1) × (a ≡ b → ⊥)
    go zero x h e = absurd (let z = ap ones (lt-one h) in let s = ones_zero in omega arith)
    go (suc k) x h e =
        let s = ones_step x in
        let p = pow-suc 2 k in
        ⊎_elim
        (λ (q : x % 2 ≡ 0). let ih = go k (x / 2) (omega arith) (omega arith) in (suc ih.0, suc ih.1, ih.2, ih.3, λ z. ih.4 (omega arith)))
        (λ (q : 0 < x % 2). let w = some_digit k (x / 2) (omega arith) (λ z. let n = ap ones z in let t = ones_zero in omega arith) in
        (0, suc w.0, omega arith, w.2, λ z. omega arith))
        (eq-zero-or-pos (x % 2))

-- which of the three a letter is
pub record Kind (mark one more : Bool) (c : ℕ) : Type 0 where
  pub empty : eqb c 0 ≡ mark
  pub alone : single c ≡ one
  pub several : unsure c ≡ more

-- every letter is exactly one of these: the entry mark, single, unsure
pub kind : (c : ℕ) → Kind true false false c ⊎ (Kind false true false c ⊎ Kind false false true c)
unfolding single unsure
kind c =
    ⊎_elim
    (λ (z : ones c ≡ 0).
    let n = ones_none c c (below_power c) z in
    inl (record { empty = eq-eqb c 0 n; alone = ne_eqb (ones c) 1 (λ q. omega arith); several = lt-leb 2 (ones c) (omega arith) }))
    (λ (p : 0 < ones c).
    let some : eqb c 0 ≡ false = ne_eqb c 0 (λ n. let q = ap ones n in let t = ones_zero in omega arith) in
    inr (⊎_elim
    (λ (q : 1 ≡ ones c). inl (record { empty = some; alone = eq-eqb (ones c) 1 (sym q); several = lt-leb 2 (ones c) (omega arith) }))
    (λ (q : 1 < ones c). inr (record { empty = some; alone = ne_eqb (ones c) 1 (λ z. omega arith); several = le-leb 2 (ones c) (omega arith) }))
    (eq-or-lt_of_le p)))
    (eq-zero-or-pos (ones c))

pub two_unsure : (c a b : ℕ) → Two c a b → unsure c ≡ true
two_unsure c a b t =
    ⊎_elim
    (λ (m : Kind true false false c). absurd (let z = eqb-true c 0 m.empty in let d = ap (digit a) z ∙ digit_zero a in let o = member_digit a c t.one in omega arith))
    (λ w. ⊎_elim (λ (s : Kind false true false c). let o = single_one c s.alone in absurd (t.differ (o.1.only a t.one ∙ sym (o.1.only b t.other)))) (λ (u : Kind false false true c). u.several) w)
    (kind c)

-- Two single letters that meet are equal. It stands in for transitivity: where the letter in the middle is single, meeting it is holding its member
pub single_same : (a b : ℕ) → single a ≡ true → single b ≡ true → meets a b ≡ true → a ≡ b
single_same a b x y e =
    let p = single_one a x in
    let q = single_one b y in
    let w = meets_some a b e in
    let u = p.1.only w.0 w.1 in
    let v = q.1.only w.0 w.2 in
    same p.0 q.0 p.1 q.1 (sym u ∙ v)
  where
    -- digits of a letter with the one member b
    at : (c b j : ℕ) → One c b → (s : ℕ) → One s b → digit j c ≡ digit j s
    at c b j o s n =
        let l = digit_lt j c in
        let m = digit_lt j s in
        bool_cases (member j c)
        (λ y. member_digit j c y ∙ sym (member_digit j s (ap (λ (i : ℕ). member i s) (o.only j y) ∙ n.has)))
        (λ z. bool_cases (member j s)
        (λ y. absurd (both_ways (member j c) (ap (λ (i : ℕ). member i c) (n.only j y) ∙ o.has) z))
        (λ k. let f = not_one j c z in let g = not_one j s k in omega arith))
      where
        not_one : (i x : ℕ) → member i x ≡ false → digit i x ≡ 1 → ⊥
        not_one i x k d = both_ways (member i x) (digit_member i x d) k

    same : (i j : ℕ) → One a i → One b j → i ≡ j → a ≡ b
    same i j o n e = digits_same a b (λ d. at a j d (subst (λ (k : ℕ). One a k) e o) b n)
