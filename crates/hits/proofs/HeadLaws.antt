-- The run that is ended after the first turn that finds, for any engine: it finds the head of what the whole run finds, and does part of its work. And what
-- the loop of such a search keeps. Assumes nothing.
use mathlib.Core.Path.{◌≡◌, refl, sym, ap, ◌∙◌}
use mathlib.Core.Bool.{Bool, true, false}
use mathlib.Core.List.{List, [], ◌∷◌, ◌++◌}
use Prim.Native.Nat.{ℕ, zero, suc, ◌+◌, ◌-◌, ◌≤◌, ◌<◌}
use native.Mathlib.Omega.{arith}
use borrow.Author.Tests.{le-leb, lt-leb}
use lib.ListN.{length, take}
use Rattle.letters.specs.Members.{keep}
use Rattle.letters.proofs.Truth.{bool_cases}
use Rattle.hits.specs.Hits.{within}
use Rattle.hits.specs.Turns.{Turn, Run, idle, after, run, unless_found, run_first}
use Rattle.hits.specs.Counts.{turn_of}
use Rattle.hits.specs.declared.work.Turned.{Turned}
use Rattle.hits.proofs.RunLaws.{run_stop, run_on}

-- of two lists that are empty together each is
nil_left : (xs ys : List ℕ) → xs ++ ys ≡ [] → xs ≡ []
nil_left [] ys e = refl
nil_left (x ∷ xs) ys e = cc

nil_right : (xs ys : List ℕ) → xs ++ ys ≡ [] → ys ≡ []
nil_right [] ys e = e
nil_right (x ∷ xs) ys e = cc

module _ {S : Type 0} (more : S → Bool) (turn : S → Turn S) where
  pub first_stop : (f : ℕ) (s : S) → more s ≡ false → run_first more turn f s ≡ idle
  unfolding run_first
  first_stop zero s h = refl
  first_stop (suc f) s h = rw h

  pub first_on : (f : ℕ) (s : S) → more s ≡ true → run_first more turn (suc f) s ≡ after (turn s) (unless_found (turn s).found (run_first more turn f (turn s).next))
  unfolding run_first
  first_on f s h = rw h

  -- where no turn finds more than one hit it finds the head of what the run finds
  pub first_head : ((s : S) → length (turn s).found ≤ 1) → (f : ℕ) (s : S) → (run_first more turn f s).found ≡ take 1 (run more turn f s).found
  unfolding run_first run
  first_head one zero s = refl
  first_head one (suc f) s =
      bool_cases (more s)
      (λ y. rw y (head (turn s).found (run_first more turn f (turn s).next) (run more turn f (turn s).next) (one s) (first_head one f (turn s).next)))
      (λ n. rw n)
    where
      head : (xs : List ℕ) (r q : Run) → length xs ≤ 1 → r.found ≡ take 1 q.found → xs ++ (unless_found xs r).found ≡ take 1 (xs ++ q.found)
      head [] r q l e = e
      head (x ∷ []) r q l e = refl
      head (x ∷ y ∷ xs) r q l e = absurd (omega arith)

  -- where the run finds nothing it is the run
  pub first_none : (f : ℕ) (s : S) → (run more turn f s).found ≡ [] → run_first more turn f s ≡ run more turn f s
  unfolding run_first run
  first_none zero s e = refl
  first_none (suc f) s e =
      bool_cases (more s)
      (λ y. let n : (turn s).found ++ (run more turn f (turn s).next).found ≡ [] = rw y at e in
      first_on f s y
      ∙ ap (λ (xs : List ℕ). after (turn s) (unless_found xs (run_first more turn f (turn s).next))) (nil_left (turn s).found (run more turn f (turn s).next).found n)
      ∙ ap (after (turn s)) (first_none f (turn s).next (nil_right (turn s).found (run more turn f (turn s).next).found n))
      ∙ sym (run_on more turn f s y))
      (λ n. first_stop (suc f) s n ∙ sym (run_stop more turn (suc f) s n))

  -- its tests are some of the run's
  pub first_scan_le : (f : ℕ) (s : S) → (run_first more turn f s).scan ≤ (run more turn f s).scan
  unfolding run_first run
  first_scan_le zero s = omega arith
  first_scan_le (suc f) s =
      bool_cases (more s)
      (λ y. rw y (part (turn s).found (turn s).scan (run_first more turn f (turn s).next) (run more turn f (turn s).next) (first_scan_le f (turn s).next)))
      (λ n. rw n (omega arith))
    where
      part : (xs : List ℕ) (c : ℕ) (r q : Run) → r.scan ≤ q.scan → c + (unless_found xs r).scan ≤ c + q.scan
      part [] c r q l = omega arith
      part (x ∷ xs) c r q l = omega arith

-- The loop of such a search, where the state is the start alone: it stands at start i with m and n in hand, has found nothing and counted `scan`, and the run from i,
-- of so many turns, does the rest
pub record Looking (P T : List ℕ) (turn : ℕ → Turn ℕ) (m n i scan : ℕ) : Type 0 where
  pub pattern : m ≡ length P
  pub text : n ≡ length T
  pub turns : ℕ
  pub enough : n < i + turns
  pub founds : (run_first (within P T) turn (suc (length T)) 0).found ≡ (run_first (within P T) turn turns i).found
  pub scans : (run_first (within P T) turn (suc (length T)) 0).scan ≡ scan + (run_first (within P T) turn turns i).scan

module _ (P T : List ℕ) (turn : ℕ → Turn ℕ) where
  abbrev whole : Run
  whole = run_first (within P T) turn (suc (length T)) 0

  pub look : Looking P T turn (length P) (length T) 0 0
  look = record { pattern = refl; text = refl; turns = suc (length T); enough = omega arith; founds = refl; scans = omega arith }

  module _ (m n i scan : ℕ) (h : Looking P T turn m n i scan) where
    -- a pass of the loop
    module _ (l : i + m ≤ n) where
      abbrev further : Run
      further = run_first (within P T) turn (h.turns - 1) (turn i).next

      here : run_first (within P T) turn h.turns i ≡ after (turn i) (unless_found (turn i).found further)
      here =
          let e = h.enough in
          let z : h.turns ≡ suc (h.turns - 1) = omega arith in
          ap (λ (f : ℕ). run_first (within P T) turn f i) z
          ∙ first_on (within P T) turn (h.turns - 1) i (le-leb (i + length P) (length T) (omega (arith, h.pattern, h.text)))

      -- what the step answered is the turn
      module _ (r : Turned) (q : turn_of i r ≡ turn i) where
        finds : (b : Bool) → r.hit ≡ b → (turn i).found ≡ keep b i []
        finds b e = sym (ap (λ (x : Turn ℕ). x.found) q) ∙ ap (λ b. keep b i []) e

        tests : r.scan ≡ (turn i).scan
        tests = ap (λ (x : Turn ℕ). x.scan) q

        -- what is counted so far, with this turn's, is at most what is counted in all
        pub look_fits : scan + r.scan ≤ whole.scan
        look_fits = omega (arith, h.scans, ap (λ (x : Run). x.scan) here, tests)

        -- a hit: it is what is found, and all is counted
        pub look_found : r.hit ≡ true → (whole.found ≡ i ∷ []) × (whole.scan ≡ scan + r.scan)
        look_found e =
            let w : run_first (within P T) turn h.turns i ≡ after (turn i) (unless_found (i ∷ []) further) = here ∙ ap (λ (xs : List ℕ). after (turn i) (unless_found xs further)) (finds true e) in (
              h.founds ∙ ap (λ (x : Run). x.found) w ∙ ap (λ (xs : List ℕ). xs ++ []) (finds true e),
              omega (arith, h.scans, ap (λ (x : Run). x.scan) w, tests),
            )

        -- none: on to the next start
        pub look_on : r.hit ≡ false → i < r.next → Looking P T turn m n r.next (scan + r.scan)
        look_on e a =
            let w : run_first (within P T) turn h.turns i ≡ after (turn i) further = here ∙ ap (λ (xs : List ℕ). after (turn i) (unless_found xs further)) (finds false e) in
            let x : r.next ≡ (turn i).next = ap (λ (x : Turn ℕ). x.next) q in
            let u = h.enough in
            record {
              pattern = h.pattern;
              text = h.text;
              turns = h.turns - 1;
              enough = omega arith;
              founds = h.founds ∙ ap (λ (x : Run). x.found) w ∙ rw (finds false e, x);
              scans = rw x (omega (arith, h.scans, ap (λ (x : Run). x.scan) w, tests));
            }

    -- past the last start: none
    pub look_end : n < i + m → (whole.found ≡ []) × (whole.scan ≡ scan)
    look_end l =
        let z = first_stop (within P T) turn h.turns i (lt-leb (i + length P) (length T) (omega (arith, h.pattern, h.text))) in
        (h.founds ∙ ap (λ (x : Run). x.found) z, omega (arith, h.scans, ap (λ (x : Run). x.scan) z))
