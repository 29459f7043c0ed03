-- Laws of a scan from left to right, by the letter that it has come to. Assumes nothing.
use mathlib.Core.Path.{◌≡◌, refl, sym, ◌∙◌}
use mathlib.Core.Bool.{Bool, true, false}
use mathlib.Core.List.{List}
use mathlib.Core.Logic.{⊎_elim}
use Prim.Native.Nat.{ℕ, zero, suc, ◌+◌, ◌-◌, ◌≤◌, ◌<◌, zero-le}
use native.Mathlib.Nat.{eq-or-lt_of_le}
use native.Mathlib.Numerals.{add-one}
use native.Mathlib.Omega.{arith}
use borrow.Author.Tests.{le-leb, lt-leb, le-ltb, lt-ltb, eqb-true, eqb-false}
use lib.Dec.{leb, ltb, eqb}
use lib.ListN.{length, get_or}
use Rattle.letters.proofs.Truth.{bool_cases}
use Rattle.hits.specs.Hits.{met, hit_at}
use Rattle.hits.specs.Scans.{reach, tests}
use Rattle.hits.specs.Counts.{tally}
use Rattle.hits.proofs.HitLaws.{hit_is, no_hit}
use Rattle.hits.proofs.MetLaws.{meets_at, met_none, met_on}

module _ (P T : List ℕ) (i : ℕ) where
  abbrev at : ℕ → Bool
  at j = meets_at P T i j

  pub reach_ge : (a f : ℕ) → a ≤ reach P T i a f
  unfolding reach
  reach_ge a zero = omega arith
  reach_ge a (suc f) = bool_cases (at a) (λ e. rw e (omega (arith, reach_ge (suc a) f))) (λ e. rw e (omega arith))

  pub reach_le : (a f : ℕ) → reach P T i a f ≤ a + f
  unfolding reach
  reach_le a zero = omega arith
  reach_le a (suc f) = bool_cases (at a) (λ e. rw e (omega (arith, reach_le (suc a) f))) (λ e. rw e (omega arith))

  -- what a scan reaches meets, if what stands before it does
  pub reach_met : (r f : ℕ) → met P T i 0 r ≡ true → met P T i 0 (reach P T i r f) ≡ true
  unfolding reach
  reach_met r zero a = a
  reach_met r (suc f) a =
      bool_cases (at r) (λ e. rw e (reach_met (suc r) f (rw (add-one r) at (met_on P T i r a e)))) (λ e. rw e a)

  -- it stops short of the end only at a letter that does not meet
  pub reach_halt : (r f : ℕ) → reach P T i r f < r + f → at (reach P T i r f) ≡ false
  unfolding reach
  reach_halt r zero l = absurd (omega arith)
  reach_halt r (suc f) l =
      bool_cases (at r) (λ e. let l' = rw e at l in rw e (reach_halt (suc r) f (omega arith))) (λ e. rw (e, e))

  -- its tests: one for each letter passed, and one for the letter that stopped it
  pub tests_reach : (a f : ℕ) → tests P T i a f + a ≡ reach P T i a f + tally (ltb (reach P T i a f) (a + f))
  unfolding tests reach
  tests_reach a zero = rw (le-ltb a (a + 0) (omega arith)) (omega arith)
  tests_reach a (suc f) =
      let z : a + suc f ≡ suc a + f = omega arith in
      bool_cases (at a)
      (λ e. rw (e, z) (omega (arith, tests_reach (suc a) f)))
      (λ e. rw (e, lt-ltb a (a + suc f) (omega arith)) (omega arith))

  pub tests_le : (a f : ℕ) → tests P T i a f ≤ f
  unfolding tests
  tests_le a zero = zero-le
  tests_le a (suc f) = bool_cases (at a) (λ e. rw e (omega (arith, tests_le (suc a) f))) (λ e. rw e (omega arith))

  -- a shorter stretch meets exactly if the scan reaches its end
  pub met_reach : (a c d : ℕ) → c ≤ d → met P T i a c ≡ leb (a + c) (reach P T i a d)
  unfolding met reach
  met_reach a zero d l = sym (le-leb (a + 0) (reach P T i a d) (omega (arith, reach_ge a d)))
  met_reach a (suc c) zero l = absurd (omega arith)
  met_reach a (suc c) (suc d) l =
      let z : a + suc c ≡ suc a + c = omega arith in
      bool_cases (at a)
      (λ e. rw (e, z) (met_reach (suc a) c d (omega arith)))
      (λ e. rw e (sym (lt-leb (a + suc c) a (omega arith))))

-- a scan to b, by the letter j that it has come to
module _ (P T : List ℕ) (i b j : ℕ) where
  abbrev here : Bool
  here = meets_at P T i j

  pub reach_on : j < b → here ≡ true → reach P T i j (b - j) ≡ reach P T i (j + 1) (b - (j + 1))
  unfolding reach
  reach_on l y = let z : b - j ≡ suc (b - (j + 1)) = omega arith in rw (z, y, add-one j)

  pub reach_stop : j < b → here ≡ false → reach P T i j (b - j) ≡ j
  unfolding reach
  reach_stop l n = let z : b - j ≡ suc (b - (j + 1)) = omega arith in rw (z, n)

  pub reach_end : b ≤ j → reach P T i j (b - j) ≡ j
  unfolding reach
  reach_end l = let z : b - j ≡ 0 = omega arith in rw z

-- a start is a hit exactly if a scan reaches the pattern's end, from any letters that meet already
pub reach_hit : (P T : List ℕ) (i r : ℕ) → i + length P ≤ length T → r ≤ length P → met P T i 0 r ≡ true
    → eqb (reach P T i r (length P - r)) (length P) ≡ hit_at P T i
reach_hit P T i r l k a =
    let z : r + (length P - r) ≡ length P = omega arith in
    let u = reach_le P T i r (length P - r) in
    let w = reach_met P T i r (length P - r) a in
    bool_cases (eqb (reach P T i r (length P - r)) (length P))
    (λ y. let e : reach P T i r (length P - r) ≡ length P = eqb-true _ _ y in y ∙ sym (hit_is P T i l ∙ rw e at w))
    (λ n. let e = eqb-false (reach P T i r (length P - r)) (length P) n in
    let h : reach P T i r (length P - r) < length P = less u z e in
    n ∙ sym (no_hit P T i (reach P T i r (length P - r)) h (reach_halt P T i r (length P - r) (omega arith))))
  where
    less : reach P T i r (length P - r) ≤ r + (length P - r) → r + (length P - r) ≡ length P → (reach P T i r (length P - r) ≡ length P → ⊥) → reach P T i r (length P - r) < length P
    less u z n = ⊎_elim (λ q. absurd (n (q ∙ z))) (λ (q : reach P T i r (length P - r) < r + (length P - r)). omega arith) (eq-or-lt_of_le u)

-- the same for a whole scan, as brute and Sunday make it
pub scan_hit : (P T : List ℕ) (i : ℕ) → i + length P ≤ length T → eqb (reach P T i 0 (length P)) (length P) ≡ hit_at P T i
scan_hit P T i l = let z : length P - 0 ≡ length P = omega arith in rw z at (reach_hit P T i 0 l (omega arith) (met_none P T i 0))

-- and its tests, from how far it went
pub scan_tests : (P T : List ℕ) (i j : ℕ) → j ≡ reach P T i 0 (length P) → tests P T i 0 (length P) ≡ j + tally (ltb j (length P))
scan_tests P T i j e =
    let z : 0 + length P ≡ length P = omega arith in
    let w = rw (z, ← e) at (tests_reach P T i 0 (length P)) in
    omega arith

-- both from what `reach_to` answers, with c for the letter that stopped it
pub whole_scan : (P T : List ℕ) (i j c : ℕ) → j ≡ reach P T i 0 (length P - 0) → c ≡ tally (ltb j (length P))
    → (j ≡ reach P T i 0 (length P)) × (j + c ≡ tests P T i 0 (length P)) × (j + c ≤ length P)
whole_scan P T i j c e f =
    let z : length P - 0 ≡ length P = omega arith in
    let q : j ≡ reach P T i 0 (length P) = rw z at e in
    let w : j + c ≡ tests P T i 0 (length P) = omega (arith, scan_tests P T i j q) in
    (q, w, omega (arith, tests_le P T i 0 (length P)))

-- a scan looks only at the letters under it
pub tests_same : (P T U : List ℕ) (i a f : ℕ) → ((j : ℕ) → a ≤ j → j < a + f → get_or T (i + j) 0 ≡ get_or U (i + j) 0) → tests P T i a f ≡ tests P U i a f
unfolding tests
tests_same P T U i a zero h = refl
tests_same P T U i a (suc f) h = rw (h a (omega arith) (omega arith), tests_same P T U i (suc a) f (λ j l m. h j (omega arith) (omega arith)))
