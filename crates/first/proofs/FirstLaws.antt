-- The first hit is the head of the list of hits, its count is brute's up to there, and what stands behind it changes neither. Assumes nothing.
use mathlib.Core.Path.{◌≡◌, refl, sym, ap, ◌∙◌}
use mathlib.Core.Bool.{Bool, true, false}
use mathlib.Core.List.{List, [], ◌∷◌, ◌++◌}
use mathlib.Core.Logic.{⊎_elim}
use Prim.Native.Nat.{ℕ, zero, suc, ◌+◌, ◌-◌, ◌*◌, ◌≤◌, ◌<◌}
use native.Mathlib.Nat.{zero-add, suc-add, eq-or-lt_of_le}
use native.Mathlib.Numerals.{add-one}
use native.Mathlib.Omega.{arith}
use borrow.Author.Tests.{le-leb, lt-leb}
use lib.Dec.{eqb}
use lib.ListN.{length, get_or, take, length-take}
use lib.Seq.{get_or-take}
use Rattle.letters.specs.Members.{keep}
use Rattle.letters.specs.Sizes.{Sized}
use Rattle.letters.proofs.Truth.{bool_cases}
use Rattle.hits.specs.Hits.{within, hit_at, starts_from, hits_from, hits}
use Rattle.hits.specs.Scans.{reach}
use Rattle.hits.specs.Turns.{Run, idle, after, run, unless_found, run_first}
use Rattle.hits.proofs.HitLaws.{hit_is, hit_fits}
use Rattle.hits.proofs.MetLaws.{met_same}
use Rattle.hits.proofs.ScanLaws.{scan_hit, tests_le, tests_same}
use Rattle.hits.proofs.RunLaws.{run_on, by_start, run_enough}
use Rattle.hits.proofs.HeadLaws.{first_stop, first_on, first_head, first_none, first_scan_le}
use Rattle.inputs.specs.Refusals.{verdict}
use Rattle.std.specs.Prelude.{Ok}
use Rattle.brute.specs.Brute.{brute_turn, brute_run}
use Rattle.brute.proofs.BruteLaws.{sound, brute_finds, brute_scan, brute_small}
use Rattle.first.specs.First.{first_run, found_of, first_of, FirstBound, scans_from}

-- such a run, which counts scan tests alone
abbrev pub ended : List ℕ → ℕ → Run
ended xs c = record { found = xs; scan = c; shift = 0; steps = 0 }

-- s is a hit, and no start below it is one
pub record FirstHit (P T : List ℕ) (s : ℕ) : Type 0 where
  pub hit : hit_at P T s ≡ true
  pub none : (i : ℕ) → i < s → hit_at P T i ≡ false

module _ (P T : List ℕ) where
  at_most_one : (i : ℕ) → length (brute_turn P T i).found ≤ 1
  unfolding brute_turn
  at_most_one i = one (eqb (reach P T i 0 (length P)) (length P))
    where
      one : (b : Bool) → length (keep b i []) ≤ 1
      one true = omega arith
      one false = omega arith

  -- what is found is the head of the list
  pub first_finds : (first_run P T).found ≡ take 1 (hits P T)
  unfolding first_run brute_run
  first_finds = first_head (within P T) (brute_turn P T) at_most_one (suc (length T)) 0 ∙ ap (take 1) (brute_finds P T)

  -- and nothing exactly if the list is empty
  pub none_empty : (first_run P T).found ≡ [] → hits P T ≡ []
  none_empty e = empty (hits P T) (sym first_finds ∙ e)
    where
      empty : (xs : List ℕ) → take 1 xs ≡ [] → xs ≡ []
      empty [] e = refl
      empty (x ∷ xs) e = cc

  pub empty_none : hits P T ≡ [] → (first_run P T).found ≡ []
  empty_none e = first_finds ∙ ap (take 1) e

  -- with no hit it is brute's run, all of it
  pub first_whole : hits P T ≡ [] → first_run P T ≡ brute_run P T
  unfolding first_run brute_run
  first_whole e = first_none (within P T) (brute_turn P T) (suc (length T)) 0 (brute_finds P T ∙ e)

  -- a pattern longer than the text: no turn, and no count
  pub first_idle : length T < length P → first_run P T ≡ idle
  unfolding first_run
  first_idle l = first_stop (within P T) (brute_turn P T) (suc (length T)) 0 (lt-leb (0 + length P) (length T) (omega arith))

  pub first_le : (first_run P T).scan ≤ (brute_run P T).scan
  unfolding first_run brute_run
  first_le = first_scan_le (within P T) (brute_turn P T) (suc (length T)) 0

  -- the head of the list is the first hit
  head_from : (c a s : ℕ) (ss : List ℕ) → hits_from P T c a ≡ s ∷ ss → (hit_at P T s ≡ true) × (a ≤ s) × ((i : ℕ) → a ≤ i → i < s → hit_at P T i ≡ false)
  unfolding starts_from
  head_from zero a s ss e = absurd (let z : 0 ≡ suc (length ss) = ap length e in omega arith)
  head_from (suc c) a s ss e =
      bool_cases (hit_at P T a)
      (λ y. let z : a ≡ s = ap (λ (xs : List ℕ). get_or xs 0 0) (rw y at e) in
      (rw (← z) y, omega arith, λ i l k. absurd (omega arith)))
      (λ n. let w = head_from c (suc a) s ss (rw n at e) in
      let u = w.1 in
      (w.0, omega arith, λ i l k. ⊎_elim (λ (q : a ≡ i). rw (← q) n) (λ (q : a < i). w.2 i q k) (eq-or-lt_of_le l)))

  pub head_first : (s : ℕ) (ss : List ℕ) → hits P T ≡ s ∷ ss → FirstHit P T s
  unfolding hits
  head_first s ss e = let w = head_from (suc (length T)) 0 s ss e in record { hit = w.0; none = λ i l. w.2 i (omega arith) l }

  -- a turn at a start that fits
  found_at : (i : ℕ) (b : Bool) → i + length P ≤ length T → hit_at P T i ≡ b → (brute_turn P T i).found ≡ keep b i []
  unfolding brute_turn
  found_at i b l e = ap (λ b. keep b i []) (scan_hit P T i l ∙ e)

  next_at : (i : ℕ) → (brute_turn P T i).next ≡ suc i
  unfolding brute_turn
  next_at i = add-one i

  -- brute counts scan tests alone
  shut : (i : ℕ) (xs : List ℕ) (c : ℕ) → after (brute_turn P T i) (ended xs c) ≡ ended ((brute_turn P T i).found ++ xs) ((brute_turn P T i).scan + c)
  unfolding brute_turn
  shut i xs c = refl

  -- from start a the first hit is d starts on
  at_from : (d a f : ℕ) → d < f → hit_at P T (a + d) ≡ true → ((i : ℕ) → a ≤ i → i < a + d → hit_at P T i ≡ false)
      → run_first (within P T) (brute_turn P T) f a ≡ ended ((a + d) ∷ []) (scans_from P T (suc d) a)
  unfolding scans_from
  at_from d a zero l h n = absurd (omega arith)
  at_from zero a (suc f) l h n =
      let z : a + 0 ≡ a = omega arith in
      let y : hit_at P T a ≡ true = rw z at h in
      let k = hit_fits P T a y in
      let e = found_at a true k y in
      rw z
      (first_on (within P T) (brute_turn P T) f a (le-leb (a + length P) (length T) k)
      ∙ ap (λ (xs : List ℕ). after (brute_turn P T a) (unless_found xs (run_first (within P T) (brute_turn P T) f (brute_turn P T a).next))) e
      ∙ shut a [] 0
      ∙ ap (λ (xs : List ℕ). ended (xs ++ []) ((brute_turn P T a).scan + 0)) e)
  at_from (suc d) a (suc f) l h n =
      let z : a + suc d ≡ suc a + d = omega arith in
      let k : a + length P ≤ length T = let u = hit_fits P T (a + suc d) h in omega arith in
      let e = found_at a false k (n a (omega arith) (omega arith)) in
      rw z
      (first_on (within P T) (brute_turn P T) f a (le-leb (a + length P) (length T) k)
      ∙ ap (λ (xs : List ℕ). after (brute_turn P T a) (unless_found xs (run_first (within P T) (brute_turn P T) f (brute_turn P T a).next))) e
      ∙ ap (λ (j : ℕ). after (brute_turn P T a) (run_first (within P T) (brute_turn P T) f j)) (next_at a)
      ∙ ap (after (brute_turn P T a)) (at_from d (suc a) f (omega arith) (rw z at h) (λ i u v. n i (omega arith) (omega arith)))
      ∙ shut a ((suc a + d) ∷ []) (scans_from P T (suc d) (suc a))
      ∙ ap (λ (xs : List ℕ). ended (xs ++ ((suc a + d) ∷ [])) ((brute_turn P T a).scan + scans_from P T (suc d) (suc a))) e)

  -- brute's run over c starts
  run_over : (c f a : ℕ) → a + c + length P ≤ length T + 1 → (run (within P T) (brute_turn P T) (c + f) a).scan ≡ scans_from P T c a + (run (within P T) (brute_turn P T) f (a + c)).scan
  unfolding scans_from
  run_over zero f a l = let z : a + 0 ≡ a = omega arith in rw (z, zero-add f) (omega arith)
  run_over (suc c) f a l =
      let z : a + suc c ≡ suc a + c = omega arith in
      let u = ap (λ (r : Run). r.scan) (run_on (within P T) (brute_turn P T) (c + f) a (le-leb (a + length P) (length T) (omega arith))) in
      let v = run_over c f (suc a) (omega arith) in
      rw (z, suc-add c f) (omega (arith, u, v, ap (λ (j : ℕ). (run (within P T) (brute_turn P T) (c + f) j).scan) (next_at a)))

  scans_most : (c a : ℕ) → scans_from P T c a ≤ length P * c
  unfolding scans_from brute_turn
  scans_most zero a = omega arith
  scans_most (suc c) a = omega (arith, tests_le P T a 0 (length P), scans_most c (suc a))

  module _ (s : ℕ) (h : FirstHit P T s) where
    -- the run, whole: that start, and the sum of the tests at the starts up to it
    pub first_at : first_run P T ≡ ended (s ∷ []) (scans_from P T (suc s) 0)
    unfolding first_run
    first_at =
        let z : 0 + s ≡ s = omega arith in
        let l = hit_fits P T s h.hit in
        rw z at (at_from s 0 (suc (length T)) (omega arith) (rw z h.hit) (λ i u v. h.none i (omega arith)))

    -- at most m a start
    pub first_most : (first_run P T).scan ≤ length P * (s + 1)
    first_most = rw (first_at, add-one s) (scans_most (suc s) 0)

    -- with the tests of brute's run from the start after the hit they are all of brute's
    pub first_rest : (first_run P T).scan + (run (within P T) (brute_turn P T) (suc (length T)) (suc s)).scan ≡ (brute_run P T).scan
    unfolding brute_run sound by_start
    first_rest =
        let l = hit_fits P T s h.hit in
        let z : suc (length T) ≡ suc s + (length T - s) = omega arith in
        let o = run_over (suc s) (length T - s) 0 (omega arith) in
        let e = ap (λ (r : Run). r.scan) (run_enough (sound P T) (length T - s) (suc (length T)) (suc s) tt (omega arith) (omega arith)) in
        let y : 0 + suc s ≡ suc s = omega arith in
        omega (arith, ap (λ (r : Run). r.scan) first_at, rw y at o, e, ap (λ (f : ℕ). (run (within P T) (brute_turn P T) f 0).scan) z)

-- within the limits the count fits a word
pub first_small : {M N : ℕ} {P T : List ℕ} → Sized M N P T → (first_run P T).scan ≤ M * (N + 1)
first_small {M} {N} {P} {T} s = omega (arith, first_le P T, brute_small s)

-- what is answered keeps the bound
pub first_bound : (P T : List ℕ) → FirstBound (length P) (length T) (Ok (found_of (first_run P T)))
first_bound P T = by (hits P T) refl
  where
    by : (xs : List ℕ) → hits P T ≡ xs → FirstBound (length P) (length T) (Ok (found_of (first_run P T)))
    by [] e = rw (first_whole P T e, brute_finds P T, e) (brute_scan P T)
    by (s ∷ ss) e = let h = head_first P T s ss e in rw (first_at P T s h) (rw (first_at P T s h) at (first_most P T s h))

-- Two texts that agree up to the first hit's end
module _ (P T U : List ℕ) (s : ℕ) (ss : List ℕ) (head : hits P T ≡ s ∷ ss) (agree : take (s + length P) U ≡ take (s + length P) T) where
  here : FirstHit P T s
  here = head_first P T s ss head

  -- the letters of both are the same there
  letter : (j : ℕ) → j < s + length P → get_or T j 0 ≡ get_or U j 0
  letter j l = sym (get_or-take (s + length P) T j 0 l) ∙ ap (λ (xs : List ℕ). get_or xs j 0) (sym agree) ∙ get_or-take (s + length P) U j 0 l

  fits : s + length P ≤ length U
  fits =
      let l = hit_fits P T s here.hit in
      omega (arith, length-take (s + length P) T, length-take (s + length P) U, ap length agree)

  hit_same : (i : ℕ) → i ≤ s → hit_at P T i ≡ hit_at P U i
  hit_same i l =
      let k = hit_fits P T s here.hit in
      let u = fits in
      hit_is P T i (omega arith) ∙ met_same P T U i i 0 (length P) (λ j a b. letter (i + j) (omega arith)) ∙ sym (hit_is P U i (omega arith))

  scans_same : (c a : ℕ) → a + c ≤ suc s → scans_from P T c a ≡ scans_from P U c a
  unfolding scans_from brute_turn
  scans_same zero a l = refl
  scans_same (suc c) a l = rw (tests_same P T U a 0 (length P) (λ j u v. letter (a + j) (omega arith)), scans_same c (suc a) (omega arith))

  -- have the same first hit, found by the same tests
  pub same_front : first_run P U ≡ first_run P T
  same_front =
      first_at P U s (record { hit = sym (hit_same s (omega arith)) ∙ here.hit; none = λ i l. sym (hit_same i (omega arith)) ∙ here.none i l })
      ∙ ap (ended (s ∷ [])) (sym (scans_same (suc s) 0 (omega arith)))
      ∙ sym (first_at P T s here)

  -- and get the same answer, where both are accepted
  pub same_answer : (K M N k l : ℕ) → verdict K M N k P T ≡ Ok tt → verdict K M N l P U ≡ Ok tt
      → first_of (verdict K M N l P U) (first_run P U) ≡ first_of (verdict K M N k P T) (first_run P T)
  same_answer K M N k l a b = rw (a, b, same_front)
