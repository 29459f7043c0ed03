-- Finding a byte in an alphabet, and the table of all numbers. Assumes nothing.
use mathlib.Core.Path.{◌≡◌, refl, sym, ap, ◌∙◌}
use mathlib.Core.List.{List, [], ◌∷◌, ◌++◌}
use Prim.Native.Nat.{ℕ, suc, ◌+◌, ◌-◌, ◌≤◌, ◌<◌}
use native.Mathlib.Omega.{arith}
use borrow.Author.Tests.{eq-eqb, ne_eqb, lt-ltb, eqb-true, eqb-false}
use lib.Dec.{eqb, ltb, leb-suc-suc}
use lib.ListN.{length, get_or, set, drop, replicate, length-set, length-replicate, get_or-replicate}
use lib.Seq.{drop-cons, drop-length, get_or-set_same, get_or-set_other}
use Rattle.letters.specs.First.{first_with, some_with}
use Rattle.std.proofs.Common.{nat_eq}
use Rattle.std.specs.List.{list_any}
use Rattle.letters.proofs.Truth.{bool_cases}
use Rattle.letters.proofs.FirstLaws.{first_has}
use Rattle.notation.specs.Alphabet.{find}

-- what is found is there
pub find_hit : (A : List ℕ) (b : ℕ) → find A b < length A → get_or A (find A b) 0 ≡ b
find_hit A b h = sym (eqb-true b _ (first_has (eqb b) A h))

pub find_same : (b : ℕ) (B : List ℕ) → find (b ∷ B) b ≡ 0
unfolding first_with
find_same b B = rw (eq-eqb b b refl)

pub find_end : (A : List ℕ) (b : ℕ) → find (drop (length A) A) b ≡ 0
unfolding first_with
find_end A b = rw (drop-length A)

-- is it there, by std's test
pub any_some : (b : ℕ) (s : List ℕ) → list_any (λ y. nat_eq y b) s ≡ some_with (eqb b) s
unfolding first_with
any_some b [] = refl
any_some b (x ∷ s) =
    bool_cases (eqb b x)
    (λ e. rw (eq-eqb x b (sym (eqb-true b x e)), e) (sym (lt-ltb 0 (suc (length s)) (omega arith))))
    (λ e. rw (ne_eqb x b (λ q. eqb-false b x e (sym q)), e) (any_some b s ∙ sym (leb-suc-suc (suc (first_with (eqb b) s)) (length s))))

-- one byte more at the end is found only as itself
pub find_snoc : (A : List ℕ) (x b : ℕ) → (b ≡ x → ⊥) → ltb (find (A ++ (x ∷ [])) b) (length (A ++ (x ∷ []))) ≡ ltb (find A b) (length A)
unfolding first_with
find_snoc [] x b n = rw (ne_eqb b x n) refl
find_snoc (a ∷ A) x b n =
    bool_cases (eqb b a) (λ e. rw e (lt-ltb 0 (suc (length (A ++ (x ∷ [])))) (omega arith) ∙ sym (lt-ltb 0 (suc (length A)) (omega arith))))
    (λ e. rw e (leb-suc-suc (suc (find (A ++ (x ∷ [])) b)) (length (A ++ (x ∷ []))) ∙ find_snoc A x b n ∙ sym (leb-suc-suc (suc (find A b)) (length A))))

-- the table holds the numbers of the letters from i on
pub record StoredFrom (A t : List ℕ) (i : ℕ) : Type 0 where
  pub size : length t ≡ 256
  pub within : i ≤ length A
  pub numbers : (b : ℕ) → b < 256 → get_or t b 0 ≡ i + find (drop i A) b

pub stored_none : (A : List ℕ) → StoredFrom A (replicate 256 (length A)) (length A)
stored_none A =
    record { size = length-replicate 256 (length A); within = omega arith; numbers = λ b h. get_or-replicate 256 b (length A) 0 h ∙ omega (arith, find_end A b) }

-- storing the letter before, for its byte x
stored_at : {A t : List ℕ} {i : ℕ} → StoredFrom A t i → 0 < i → (b : ℕ) → b < 256 → get_or (set t (get_or A (i - 1) 0) (i - 1)) b 0 ≡ i - 1 + find (drop (i - 1) A) b
unfolding first_with
stored_at {A} {t} {i} w p b l =
    let on : suc (i - 1) ≡ i = omega arith in
    let x = get_or A (i - 1) 0 in
    bool_cases (eqb b x)
    (λ e. let z = eqb-true b x e in
    rw (drop-cons A (i - 1) 0 (omega (arith, w.within)), e)
    (ap (λ (y : ℕ). get_or (set t x (i - 1)) y 0) z ∙ get_or-set_same t x (i - 1) 0 (omega (arith, w.size)) ∙ (let y : i - 1 ≡ i - 1 + 0 = omega arith in y)))
    (λ e. rw (drop-cons A (i - 1) 0 (omega (arith, w.within)), e)
    (get_or-set_other t x b (i - 1) 0 (eqb-false b x e) ∙ w.numbers b l ∙ ap (λ (y : ℕ). y + find (drop y A) b) (sym on)
    ∙ (let y : suc (i - 1) + find (drop (suc (i - 1)) A) b ≡ i - 1 + suc (find (drop (suc (i - 1)) A) b) = omega arith in y)))

pub stored_on : {A t : List ℕ} {i : ℕ} → StoredFrom A t i → 0 < i → (x : ℕ) → x ≡ get_or A (i - 1) 0 → StoredFrom A (set t x (i - 1)) (i - 1)
stored_on {A} {t} {i} w p x q =
    record { size = length-set t _ _ ∙ w.size; within = omega (arith, w.within); numbers = λ b h. ap (λ (y : ℕ). get_or (set t y (i - 1)) b 0) q ∙ stored_at w p b h }
