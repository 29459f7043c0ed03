-- The law of runs, for any engine: if each turn reports exactly the hits that it passes, the run reports the list of hits; and work that a potential pays for is bounded by it. Assumes nothing.
use mathlib.Core.Path.{◌≡◌, refl, sym, ap, ◌∙◌}
use mathlib.Core.Bool.{Bool, true, false}
use mathlib.Core.List.{List, ◌++◌}
use Prim.Native.Nat.{ℕ, zero, suc, ◌+◌, ◌-◌, ◌*◌, ◌≤◌, ◌<◌}
use native.Mathlib.Nat.{mul-le-mul_left, mul-le-mul_right}
use native.Mathlib.Omega.{arith}
use borrow.Author.Tests.{leb-true, leb-false, lt-leb}
use lib.ListN.{length}
use Rattle.letters.specs.Sizes.{Sized}
use Rattle.letters.proofs.Truth.{bool_cases, both_ways}
use Rattle.hits.specs.Hits.{within, hits_from, hits}
use Rattle.hits.specs.Turns.{Turn, Run, idle, after, run}
use Rattle.hits.proofs.HitLaws.{rest, rest_split, rest_past, rest_all, length_hits}

-- a fair turn comes nearer to the end, keeps what the engine keeps, and finds the hits among the `gap` starts that it settles
pub record Fair {S : Type 0} (P T : List ℕ) (left settled : S → ℕ) (ok : S → Type 0) (s : S) (t : Turn S) : Type 0 where
  pub falls : left t.next < left s
  pub still : ok t.next
  pub gap : ℕ
  pub moved : settled t.next ≡ settled s + gap
  pub right : t.found ≡ hits_from P T gap (settled s)

-- a sound engine. `settled s`: every hit below it was found before s. `left s` bounds the turns from s, and F those from the first state
pub record Sound {S : Type 0} (P T : List ℕ) (more : S → Bool) (turn : S → Turn S) (F : ℕ) (s₀ : S) : Type 1 where
  pub left : S → ℕ
  pub settled : S → ℕ
  pub ok : S → Type 0
  pub begins : ok s₀
  pub enough : left s₀ ≤ F
  pub nothing : settled s₀ ≡ 0
  pub fair : (s : S) → ok s → more s ≡ true → Fair P T left settled ok s (turn s)
  pub ends : (s : S) → ok s → more s ≡ false → length T < settled s + length P

module _ {S : Type 0} (more : S → Bool) (turn : S → Turn S) where
  pub run_stop : (f : ℕ) (s : S) → more s ≡ false → run more turn f s ≡ idle
  unfolding run
  run_stop zero s h = refl
  run_stop (suc f) s h = rw h

  pub run_on : (f : ℕ) (s : S) → more s ≡ true → run more turn (suc f) s ≡ after (turn s) (run more turn f (turn s).next)
  unfolding run
  run_on f s h = rw h

module _ {S : Type 0} {P T : List ℕ} {more : S → Bool} {turn : S → Turn S} {F : ℕ} {s₀ : S} (e : Sound P T more turn F s₀) where
  -- with no turn left there is no more to do
  stuck : (s : S) → e.ok s → e.left s ≤ 0 → more s ≡ false
  stuck s o h = bool_cases (more s) (λ y. absurd (let v = (e.fair s o y).falls in omega arith)) (λ n. n)

  idles : (f : ℕ) (s : S) → e.ok s → more s ≡ false → (run more turn f s).found ≡ rest P T (e.settled s)
  idles f s o n = ap (λ (r : Run). r.found) (run_stop more turn f s n) ∙ sym (rest_past P T (e.settled s) (e.ends s o n))

  finds : (f : ℕ) (s : S) → e.ok s → e.left s ≤ f → (run more turn f s).found ≡ rest P T (e.settled s)
  finds zero s o h = idles zero s o (stuck s o h)
  finds (suc f) s o h =
      bool_cases (more s)
      (λ y. let w = e.fair s o y in
      let v = w.falls in
      ap (λ (r : Run). r.found) (run_on more turn f s y)
      ∙ ap (λ (xs : List ℕ). (turn s).found ++ xs) (finds f (turn s).next w.still (omega arith))
      ∙ rw (w.right, w.moved) (sym (rest_split P T w.gap (e.settled s))))
      (λ n. idles (suc f) s o n)

  -- a sound engine finds exactly the hits
  pub finds_all : (run more turn F s₀).found ≡ hits P T
  finds_all = finds F s₀ e.begins e.enough ∙ ap (rest P T) e.nothing ∙ rest_all P T

  pub total_small : length (run more turn F s₀).found ≤ suc (length T)
  total_small = rw finds_all (length_hits P T)

  -- how many turns a run is allowed does not matter, if they are enough
  pub run_enough : (f g : ℕ) (s : S) → e.ok s → e.left s ≤ f → e.left s ≤ g → run more turn f s ≡ run more turn g s
  run_enough zero g s o h k = run_stop more turn zero s (stuck s o h) ∙ sym (run_stop more turn g s (stuck s o h))
  run_enough (suc f) zero s o h k = run_stop more turn (suc f) s (stuck s o k) ∙ sym (run_stop more turn zero s (stuck s o k))
  run_enough (suc f) (suc g) s o h k =
      bool_cases (more s)
      (λ y. let w = e.fair s o y in
      let v = w.falls in
      run_on more turn f s y ∙ ap (after (turn s)) (run_enough f g (turn s).next w.still (omega arith) (omega arith)) ∙ sym (run_on more turn g s y))
      (λ n. run_stop more turn (suc f) s n ∙ sym (run_stop more turn (suc g) s n))

  -- a run is a turn and the run from the next state
  pub run_turn : (s : S) (f : ℕ) → e.ok s → e.left s ≤ f → more s ≡ true → run more turn f s ≡ after (turn s) (run more turn f (turn s).next)
  run_turn s zero o l y = absurd (both_ways (more s) y (stuck s o l))
  run_turn s (suc f) o l y =
      let w = e.fair s o y in
      let v = w.falls in
      run_on more turn f s y ∙ ap (after (turn s)) (run_enough f (suc f) (turn s).next w.still (omega arith) (omega arith))

  -- work that each turn pays from a potential is at most the potential at the start
  module _ (cost : Run → ℕ) (own : Turn S → ℕ) (none : cost idle ≡ 0) (adds : (t : Turn S) (r : Run) → cost (after t r) ≡ own t + cost r) where
    paid : (φ : S → ℕ) → ((s : S) → e.ok s → more s ≡ true → own (turn s) + φ (turn s).next ≤ φ s) → (f : ℕ) (s : S) → e.ok s → cost (run more turn f s) ≤ φ s
    unfolding run
    paid φ pays zero s o = omega (arith, none)
    paid φ pays (suc f) s o =
        bool_cases (more s)
        (λ y. rw (run_on more turn f s y, adds) (omega (arith, pays s o y, paid φ pays f (turn s).next (e.fair s o y).still)))
        (λ n. rw (run_stop more turn (suc f) s n) (omega (arith, none)))

    pub bounded : (φ : S → ℕ) → ((s : S) → e.ok s → more s ≡ true → own (turn s) + φ (turn s).next ≤ φ s) → cost (run more turn F s₀) ≤ φ s₀
    bounded φ pays = paid φ pays F s₀ e.begins

-- an engine whose state is the start alone: each turn moves on and finds the hits that it passes
abbrev pub Passing : List ℕ → List ℕ → (ℕ → Turn ℕ) → Type 0
Passing P T turn = (i : ℕ) → i + length P ≤ length T → Fair P T (λ j. length T + 1 - (j + length P)) (λ j. j) (λ j. Unit {0}) i (turn i)

module _ {P T : List ℕ} {turn : ℕ → Turn ℕ} (passing : Passing P T turn) where
  -- every start below the present one is settled
  unfoldable pub by_start : Sound P T (within P T) turn (suc (length T)) 0
  by_start =
      record {
        left = λ i. length T + 1 - (i + length P);
        settled = λ i. i;
        ok = λ i. Unit {0};
        begins = tt;
        enough = omega arith;
        nothing = refl;
        fair = λ i o y. passing i (leb-true _ _ y);
        ends = λ i o n. leb-false _ _ n;
      }

  -- work of at most c a turn: c for each start
  module _ (cost : Run → ℕ) (own : Turn ℕ → ℕ) (none : cost idle ≡ 0) (adds : (t : Turn ℕ) (r : Run) → cost (after t r) ≡ own t + cost r) where
    pub per_start : (c : ℕ) → ((i : ℕ) → own (turn i) ≤ c) → cost (run (within P T) turn (suc (length T)) 0) ≤ c * (length T + 1 - length P)
    unfolding by_start
    per_start c small =
        let h = bounded by_start cost own none adds (λ (i : ℕ). c * (length T + 1 - (i + length P)))
        (λ i o y.
        let f = (passing i (leb-true _ _ y)).falls in
        omega (arith, small i, mul-le-mul_left c f))
        in
        let k : length T + 1 - (0 + length P) ≤ length T + 1 - length P = omega arith in
        omega (arith, h, mul-le-mul_left c k)

-- a pattern longer than the text: no turn, so no hit and no count
pub no_start : (P T : List ℕ) (turn : ℕ → Turn ℕ) (f : ℕ) → length T < length P → run (within P T) turn f 0 ≡ idle
no_start P T turn f l = run_stop (within P T) turn f 0 (lt-leb (0 + length P) (length T) (omega arith))

-- Within the limits such a count is small,
pub start_small : {M N : ℕ} {P T : List ℕ} → Sized M N P T → (x : ℕ) → x ≤ length P * (length T + 1 - length P) → x ≤ M * (N + 1)
start_small {M} {N} {P} {T} s x b =
    let a : length T + 1 - length P ≤ N + 1 = omega (arith, s.small) in
    omega (arith, mul-le-mul_right (length T + 1 - length P) s.pattern.short, mul-le-mul_left M a)

-- and so is one of at most m - 1 for each start but one
pub shift_small : {M N : ℕ} {P T : List ℕ} → Sized M N P T → (x : ℕ) → x ≤ (length T - length P) * (length P - 1) → x ≤ N * M
shift_small {M} {N} {P} {T} s x c =
    let a : length T - length P ≤ N = omega (arith, s.small) in
    let b : length P - 1 ≤ M = omega (arith, s.pattern.short) in
    omega (arith, mul-le-mul_right (length P - 1) a, mul-le-mul_left N b)
