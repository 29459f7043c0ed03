-- A number is spelled in one way by its digits. Assumes nothing.
use mathlib.Core.Path.{◌≡◌, refl, sym, ap, ap₂, ◌∙◌, subst}
use mathlib.Core.Bool.{true}
use mathlib.Core.List.{List, [], ◌∷◌, ◌++◌, append-nil}
use Prim.Native.Nat.{ℕ, zero, suc, ◌+◌, ◌-◌, ◌*◌, ◌/◌, ◌%◌, ◌^◌, ◌≤◌, ◌<◌}
use native.Mathlib.Nat.{pow-suc}
use native.Mathlib.Omega.{arith}
use borrow.Author.Tests.{lt-ltb, le-ltb, ltb-true, ltb-false, eqb-true, eqb-false}
use lib.Dec.{eqb, ltb}
use lib.ListN.{length, get_or, drop, length-append}
use lib.Seq.{append_snoc}
use Rattle.letters.proofs.Truth.{bool_cases}
use Rattle.std.specs.Char.{is_ascii_digit}
use Rattle.std.proofs.lemmas.Bool.Decides.{nat_tests}
use Rattle.std.proofs.lemmas.List.{take-append-drop, get_or-take}
use Rattle.std.proofs.lemmas.List.Folds.{length-prefix_len}
use Rattle.std.proofs.lemmas.List.Sums.{take_while-cons}
use Rattle.decimal.specs.Decimal.{front_digits, value, decimal_to, decimal, ended}

-- bytes that are digits
abbrev pub Digs : List ℕ → Type 0
Digs [] = Unit {0}
Digs (b ∷ s) = (is_ascii_digit b ≡ true) × Digs s

digs_snoc : (xs : List ℕ) (b : ℕ) → Digs xs → is_ascii_digit b ≡ true → Digs (xs ++ (b ∷ []))
digs_snoc [] b d e = (e, tt)
digs_snoc (x ∷ xs) b d e = (d.0, digs_snoc xs b d.1 e)

snoc_digs : (xs : List ℕ) (b : ℕ) → Digs (xs ++ (b ∷ [])) → Digs xs × (is_ascii_digit b ≡ true)
snoc_digs [] b d = (tt, d.0)
snoc_digs (x ∷ xs) b d = let r = snoc_digs xs b d.1 in ((d.0, r.0), r.1)

pub digit_range : (b : ℕ) → is_ascii_digit b ≡ true → (48 ≤ b) × (b ≤ 57)
digit_range b e = grind (arith, nat_tests)

pub value_end : (v : ℕ) (s : List ℕ) → length s ≡ 0 → value v s ≡ v
unfolding value
value_end v [] e = refl
value_end v (b ∷ s) e = absurd (omega arith)

digit_of : (n : ℕ) → n < 10 → is_ascii_digit (48 + n) ≡ true
digit_of n h = grind (arith, nat_tests)

pub value_snoc : (v : ℕ) (xs : List ℕ) (b : ℕ) → value v (xs ++ (b ∷ [])) ≡ value v xs * 10 + (b - 48)
unfolding value
value_snoc v [] b = refl
value_snoc v (x ∷ xs) b = value_snoc (v * 10 + (x - 48)) xs b

module _ (f n : ℕ) where
  pub dec_small : n < 10 → decimal_to (suc f) n ≡ (48 + n) ∷ []
  unfolding decimal_to
  dec_small h = rw (lt-ltb n 10 h)

  pub dec_more : 10 ≤ n → decimal_to (suc f) n ≡ decimal_to f (n / 10) ++ ((48 + n % 10) ∷ [])
  unfolding decimal_to
  dec_more h = rw (le-ltb n 10 h)

pub record Spelled (n : ℕ) (ds : List ℕ) : Type 0 where
  pub digs : Digs ds
  pub val : value 0 ds ≡ n
  pub some : 0 < length ds
  pub lead : 1 < length ds → 48 < get_or ds 0 0
  pub whole : 0 < n → 48 < get_or ds 0 0

pub first_append : (xs ys : List ℕ) → 0 < length xs → get_or (xs ++ ys) 0 0 ≡ get_or xs 0 0
first_append [] ys h = absurd (omega arith)
first_append (x ∷ xs) ys h = refl

pub dec_spelled : (f n : ℕ) → n < 10 ^ f → 0 < f → Spelled n (decimal_to f n)
unfolding value
dec_spelled zero n h p = absurd (omega arith)
dec_spelled (suc f) n h p =
    bool_cases (ltb n 10)
    (λ e. let l = ltb-true n 10 e in
    subst (Spelled n) (sym (dec_small f n l))
    (record { digs = (digit_of n l, tt); val = omega arith; some = omega arith; lead = λ z. omega arith; whole = λ z. omega arith }))
    (λ e. let l = ltb-false n 10 e in
    let pw = pow-suc 10 f in
    let fp : 0 < f = bool_cases (eqb f 0) (λ z. absurd (let q = ap (λ (x : ℕ). 10 ^ x) (eqb-true f 0 z) in omega arith)) (λ z. let q = eqb-false f 0 z in omega arith) in
    let ih = dec_spelled f (n / 10) (omega arith) fp in
    let xs = decimal_to f (n / 10) in
    let d = 48 + n % 10 in
    let fa = first_append xs (d ∷ []) ih.some in
    let w = ih.whole (omega arith) in
    subst (Spelled n) (sym (dec_more f n l))
    (record {
      digs = digs_snoc xs d ih.digs (digit_of (n % 10) (omega arith));
      val = value_snoc 0 xs d ∙ (let v = ih.val in omega arith);
      some = omega (arith, length-append xs (d ∷ []));
      lead = λ z. omega (arith, fa);
      whole = λ z. omega (arith, fa);
    }))

pub dec_length : (f g n : ℕ) → n < 10 ^ g → 0 < g → g ≤ f → length (decimal_to f n) ≤ g
dec_length zero g n h p l = absurd (omega arith)
dec_length (suc f) zero n h p l = absurd (omega arith)
dec_length (suc f) (suc g) n h p l =
    bool_cases (ltb n 10)
    (λ e. let q = ap length (dec_small f n (ltb-true n 10 e)) in omega arith)
    (λ e. let b = ltb-false n 10 e in
    let pw = pow-suc 10 g in
    let gp : 0 < g = bool_cases (eqb g 0) (λ z. absurd (let q = ap (λ (x : ℕ). 10 ^ x) (eqb-true g 0 z) in omega arith)) (λ z. let q = eqb-false g 0 z in omega arith) in
    let ih = dec_length f g (n / 10) (omega arith) gp (omega arith) in
    omega (arith, ap length (dec_more f n b), length-append (decimal_to f (n / 10)) ((48 + n % 10) ∷ [])))

-- digits in front of an LF are all that is in front of it
pub digits_line : (ds r : List ℕ) → Digs ds → front_digits (ds ++ (10 ∷ r)) ≡ ds
digits_line [] r d = refl
digits_line (b ∷ ds) r d = take_while-cons is_ascii_digit b (ds ++ (10 ∷ r)) ∙ rw d.0 (ap (λ (xs : List ℕ). b ∷ xs) (digits_line ds r d.1))

-- what holds of no byte, and of one byte more at the end, holds of all bytes
pub snoc_ind : (P : List ℕ → Type 0) → P [] → ((xs : List ℕ) (b : ℕ) → P xs → P (xs ++ (b ∷ []))) → (l : List ℕ) → P l
snoc_ind P z f l = go [] l z
  where
    go : (acc l : List ℕ) → P acc → P (acc ++ l)
    go acc [] p = subst P (sym (append-nil acc)) p
    go acc (b ∷ l) p = subst P (append_snoc acc b l) (go (acc ++ (b ∷ [])) l (f acc b p))

value_pos : (v : ℕ) (s : List ℕ) → 0 < v → 0 < value v s
unfolding value
value_pos v [] h = h
value_pos v (b ∷ s) h = value_pos (v * 10 + (b - 48)) s (omega arith)

lead_pos : (s : List ℕ) → 0 < length s → 48 < get_or s 0 0 → 0 < value 0 s
unfolding value
lead_pos [] h l = absurd (omega arith)
lead_pos (b ∷ s) h l = value_pos (0 * 10 + (b - 48)) s (omega arith)

pub value_lt : (s : List ℕ) → Digs s → value 0 s < 10 ^ length s
value_lt = snoc_ind (λ s. Digs s → value 0 s < 10 ^ length s) (λ d. zero_lt)
    (λ xs b ih d. let q = snoc_digs xs b d in
    let r = digit_range b q.1 in
    let h = ih q.0 in
    let n : length (xs ++ (b ∷ [])) ≡ suc (length xs) = omega (arith, length-append xs (b ∷ [])) in
    rw (n, value_snoc 0 xs b) (omega (arith, pow-suc 10 (length xs), r.0, r.1)))
  where
    zero_lt : value 0 [] < 10 ^ 0
    zero_lt = omega (arith, value_end 0 [] refl)

back_more : (f : ℕ) (xs : List ℕ) (b : ℕ) → (48 ≤ b) × (b ≤ 57) → 0 < value 0 xs → decimal_to f (value 0 xs) ≡ xs → decimal_to (suc f) (value 0 xs * 10 + (b - 48)) ≡ xs ++ (b ∷ [])
back_more f xs b r p ih =
    let n = value 0 xs * 10 + (b - 48) in
    let q : n / 10 ≡ value 0 xs = omega arith in
    let m : 48 + n % 10 ≡ b = omega arith in
    dec_more f n (omega arith) ∙ ap₂ (λ (x y : ℕ). decimal_to f x ++ (y ∷ [])) q m ∙ ap (λ (ys : List ℕ). ys ++ (b ∷ [])) ih

back_one : (f b : ℕ) → (48 ≤ b) × (b ≤ 57) → (xs : List ℕ) → length xs ≡ 0 → decimal_to (suc f) (value 0 xs * 10 + (b - 48)) ≡ xs ++ (b ∷ [])
unfolding value
back_one f b r [] e =
    let m : 48 + (0 * 10 + (b - 48)) ≡ b = omega arith in
    dec_small f (0 * 10 + (b - 48)) (omega arith) ∙ ap (λ (y : ℕ). y ∷ []) m
back_one f b r (x ∷ xs) e = absurd (omega arith)

-- digits with no leading 0 are the one spelling of their number
abbrev Back : List ℕ → Type 0
Back ds = (f : ℕ) → length ds ≤ f → Digs ds → 0 < length ds → (1 < length ds → get_or ds 0 0 ≡ 48 → ⊥) → decimal_to f (value 0 ds) ≡ ds

first_digit : (xs : List ℕ) → 0 < length xs → Digs xs → (48 ≤ get_or xs 0 0) × (get_or xs 0 0 ≤ 57)
first_digit [] h d = absurd (omega arith)
first_digit (x ∷ xs) h d = digit_range x d.0

back_snoc : (xs : List ℕ) (b : ℕ) → Back xs → Back (xs ++ (b ∷ []))
back_snoc xs b ih zero l d p ld = absurd (omega (arith, length-append xs (b ∷ [])))
back_snoc xs b ih (suc f) l d p ld =
    let q = snoc_digs xs b d in
    let n = length-append xs (b ∷ []) in
    let r = digit_range b q.1 in
    rw (value_snoc 0 xs b)
    (bool_cases (eqb (length xs) 0)
    (λ e. back_one f b r xs (eqb-true _ _ e))
    (λ e. let ne = eqb-false (length xs) 0 e in
    let s : 0 < length xs = omega arith in
    let fa = first_append xs (b ∷ []) s in
    let nz = ld (omega arith) in
    let fd = first_digit xs s q.0 in
    let big : 48 < get_or xs 0 0 = bool_cases (eqb (get_or xs 0 0) 48) (λ z. absurd (nz (fa ∙ eqb-true _ _ z))) (λ z. let w = eqb-false (get_or xs 0 0) 48 z in omega (arith, fd.0)) in
    back_more f xs b r (lead_pos xs s big) (ih f (omega arith) q.0 s (λ one z. nz (fa ∙ z)))))

pub dec_back : (ds : List ℕ) → Back ds
dec_back ds = snoc_ind Back (λ f l d p ld. absurd (omega arith)) back_snoc ds

pub digits_digs : (s : List ℕ) → Digs (front_digits s)
digits_digs [] = tt
digits_digs (b ∷ s) = subst Digs (sym (take_while-cons is_ascii_digit b s)) (bool_cases (is_ascii_digit b) (λ e. rw e (e, digits_digs s)) (λ e. rw e tt))

pub digits_front : (s : List ℕ) → s ≡ front_digits s ++ drop (length (front_digits s)) s
digits_front s = sym (rw (length-prefix_len is_ascii_digit s) (take-append-drop _ s))

pub first_of : (s : List ℕ) → 0 < length (front_digits s) → get_or (front_digits s) 0 0 ≡ get_or s 0 0
first_of s h = get_or-take _ s 0 0 (rw (length-prefix_len is_ascii_digit s) at h)

-- the fuel does not matter, if it is enough
dec_enough : (f g n : ℕ) → n < 10 ^ f → n < 10 ^ g → 0 < f → 0 < g → decimal_to f n ≡ decimal_to g n
dec_enough zero g n h k p q = absurd (omega arith)
dec_enough (suc f) zero n h k p q = absurd (omega arith)
dec_enough (suc f) (suc g) n h k p q =
    bool_cases (ltb n 10)
    (λ e. let l = ltb-true n 10 e in dec_small f n l ∙ sym (dec_small g n l))
    (λ e. let l = ltb-false n 10 e in
    let pf = pow-suc 10 f in
    let pg = pow-suc 10 g in
    let fp : 0 < f = bool_cases (eqb f 0) (λ z. absurd (let q = ap (λ (x : ℕ). 10 ^ x) (eqb-true f 0 z) in omega arith)) (λ z. let q = eqb-false f 0 z in omega arith) in
    let gp : 0 < g = bool_cases (eqb g 0) (λ z. absurd (let q = ap (λ (x : ℕ). 10 ^ x) (eqb-true g 0 z) in omega arith)) (λ z. let q = eqb-false g 0 z in omega arith) in
    dec_more f n l ∙ ap (λ (xs : List ℕ). xs ++ ((48 + n % 10) ∷ [])) (dec_enough f g (n / 10) (omega arith) (omega arith) fp gp) ∙ sym (dec_more g n l))

pub decimal_one : (n : ℕ) → n < 10 → decimal n ≡ (48 + n % 10) ∷ []
unfolding decimal
decimal_one n h = dec_small 19 n h ∙ ap (λ (x : ℕ). (48 + x) ∷ []) (let q : n ≡ n % 10 = omega arith in q)

pub decimal_more : (n : ℕ) → 10 ≤ n → n < 2 ^ 64 → decimal n ≡ decimal (n / 10) ++ ((48 + n % 10) ∷ [])
unfolding decimal
decimal_more n l h = dec_more 19 n l ∙ ap (λ (xs : List ℕ). xs ++ ((48 + n % 10) ∷ [])) (dec_enough 19 20 (n / 10) (omega arith) (omega arith) (omega arith) (omega arith))

pub decimal_length : (n : ℕ) → 10 ≤ n → n < 2 ^ 64 → length (decimal n) ≡ length (decimal (n / 10)) + 1
decimal_length n l h = ap length (decimal_more n l h) ∙ length-append (decimal (n / 10)) ((48 + n % 10) ∷ [])

-- five digits and fewer; twenty at most
pub decimal_short : (g n : ℕ) → n < 10 ^ g → 0 < g → g ≤ 20 → length (decimal n) ≤ g
unfolding decimal
decimal_short g n h p l = dec_length 20 g n h p l

pub decimal_spelled : (n : ℕ) → n < 10 ^ 20 → Spelled n (decimal n)
unfolding decimal
decimal_spelled n h = dec_spelled 20 n h (omega arith)

pub decimal_back : (ds : List ℕ) → length ds ≤ 20 → Digs ds → 0 < length ds → (1 < length ds → get_or ds 0 0 ≡ 48 → ⊥) → decimal (value 0 ds) ≡ ds
unfolding decimal
decimal_back ds l d p ld = dec_back ds 20 l d p ld

-- a number and a byte
pub ended_length : (n b : ℕ) → length (ended n b) ≡ length (decimal n) + 1
unfolding ended
ended_length n b = length-append (decimal n) (b ∷ [])

pub ended_short : (g n b : ℕ) → n < 10 ^ g → 0 < g → g ≤ 20 → length (ended n b) ≤ g + 1
ended_short g n b h p l = omega (arith, ended_length n b, decimal_short g n h p l)

pub ended_fits : (n b : ℕ) → n < 2 ^ 64 → length (ended n b) ≤ 21
ended_fits n b h = ended_short 20 n b (omega arith) (omega arith) (omega arith)
