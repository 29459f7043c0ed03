-- What the loop of any sound engine keeps, and the laws that answer its needs. Assumes nothing.
use mathlib.Core.Path.{◌≡◌, refl, sym, ap, ◌∙◌}
use mathlib.Core.Bool.{Bool, true, false}
use mathlib.Core.List.{List, [], ◌++◌, append_assoc, append-nil}
use Prim.Native.Nat.{ℕ, suc, ◌+◌, ◌≤◌, ◌<◌}
use borrow.Author.Tests.{le-leb, lt-leb}
use native.Mathlib.Omega.{arith}
use lib.ListN.{length, length-append}
use Rattle.letters.specs.Members.{keep}
use Rattle.hits.specs.Hits.{within, hits}
use Rattle.lent.specs.Over.{over}
use Rattle.hits.specs.Turns.{Turn, Run, after, run}
use Rattle.hits.specs.Counts.{tally, noted, noted_all, work_of, turn_of}
use Rattle.hits.specs.declared.work.Work.{Work}
use Rattle.hits.specs.declared.work.Turned.{Turned}
use Rattle.hits.proofs.ListLaws.{noted_over, noted_keep, tally_keep}
use Rattle.lent.proofs.OverLaws.{length_over}
use Rattle.hits.proofs.RunLaws.{Sound, run_stop, run_turn, finds_all, total_small}

-- the loop of a sound engine with the list d lent: at the state s it has written `past` over d and counted w, and the run from s does the rest
pub record SoFar {S : Type 0} {P T : List ℕ} {more : S → Bool} {turn : S → Turn S} {F : ℕ} {s₀ : S} (e : Sound P T more turn F s₀) (d : List ℕ) (s : S) (list : List ℕ) (w : Work) : Type 0 where
  pub fine : e.ok s
  pub near : e.left s ≤ F
  pub past : List ℕ
  pub lists : list ≡ over past d
  pub totals : w.total ≡ length past
  pub founds : (run more turn F s₀).found ≡ past ++ (run more turn F s).found
  pub scans : (run more turn F s₀).scan ≡ w.scan + (run more turn F s).scan
  pub shifts : (run more turn F s₀).shift ≡ w.shift + (run more turn F s).shift
  pub word_steps : (run more turn F s₀).steps ≡ w.steps + (run more turn F s).steps

module _ {S : Type 0} {P T : List ℕ} {more : S → Bool} {turn : S → Turn S} {F : ℕ} {s₀ : S} (e : Sound P T more turn F s₀) (d : List ℕ) where
  pub start : SoFar e d s₀ d (record { total = 0; scan = 0; shift = 0; steps = 0 })
  unfolding over
  start =
      record {
        fine = e.begins;
        near = e.enough;
        past = [];
        lists = refl;
        totals = refl;
        founds = refl;
        scans = omega arith;
        shifts = omega arith;
        word_steps = omega arith;
      }

  module _ (s : S) (list : List ℕ) (w : Work) (h : SoFar e d s list w) where
    pub kept : length list ≡ length d
    kept = ap length h.lists ∙ length_over h.past d

    pub total_le : w.total ≤ suc (length T)
    total_le =
        omega (arith, h.totals, ap length h.founds, length-append h.past (run more turn F s).found, total_small e)

    -- while there is more to do
    module _ (y : more s ≡ true) where
      one : run more turn F s ≡ after (turn s) (run more turn F (turn s).next)
      one = run_turn e s F h.fine h.near y

      -- a pass of the loop is a turn of the rule: the hits that it found are noted, and its work is added
      pub pass : (s' : S) (list' : List ℕ) (w' : Work)
          → s' ≡ (turn s).next → list' ≡ noted_all (turn s).found list w.total → w'.total ≡ w.total + length (turn s).found
          → w'.scan ≡ w.scan + (turn s).scan → w'.shift ≡ w.shift + (turn s).shift → w'.steps ≡ w.steps + (turn s).steps
          → SoFar e d s' list' w'
      pass s' list' w' es el et sc sh st =
          let f = e.fair s h.fine y in
          let v = f.falls in
          let u = one in
          rw es
          (record {
            fine = f.still;
            near = omega (arith, h.near);
            past = h.past ++ (turn s).found;
            lists = el ∙ rw (h.lists, h.totals) (noted_over (turn s).found h.past d);
            totals = omega (arith, et, h.totals, length-append h.past (turn s).found);
            founds =
                h.founds
                ∙ ap (λ (r : Run). h.past ++ r.found) u
                ∙ sym (append_assoc h.past (turn s).found (run more turn F (turn s).next).found);
            scans = omega (arith, h.scans, ap (λ (r : Run). r.scan) u);
            shifts = omega (arith, h.shifts, ap (λ (r : Run). r.shift) u);
            word_steps = omega (arith, h.word_steps, ap (λ (r : Run). r.steps) u);
          })

      -- the same where a turn finds at most one hit, which is noted
      pub pass_one : (s' : S) (list' : List ℕ) (w' : Work) (b : Bool) (i : ℕ)
          → s' ≡ (turn s).next → (turn s).found ≡ keep b i [] → list' ≡ noted b list w.total i → w'.total ≡ w.total + tally b
          → w'.scan ≡ w.scan + (turn s).scan → w'.shift ≡ w.shift + (turn s).shift → w'.steps ≡ w.steps + (turn s).steps
          → SoFar e d s' list' w'
      pass_one s' list' w' b i es ef el et sc sh st =
          pass s' list' w' es
          (el ∙ noted_keep b i list w.total ∙ ap (λ (xs : List ℕ). noted_all xs list w.total) (sym ef))
          (et ∙ ap (λ (k : ℕ). w.total + k) (tally_keep b i ∙ ap length (sym ef)))
          sc sh st

      -- what is counted so far, with this turn's, is at most what the whole run counts
      pub next_scan_le : w.scan + (turn s).scan ≤ (run more turn F s₀).scan
      next_scan_le = omega (arith, h.scans, ap (λ (r : Run). r.scan) one)

      pub next_shift_le : w.shift + (turn s).shift ≤ (run more turn F s₀).shift
      next_shift_le = omega (arith, h.shifts, ap (λ (r : Run). r.shift) one)

      pub next_steps_le : w.steps + (turn s).steps ≤ (run more turn F s₀).steps
      next_steps_le = omega (arith, h.word_steps, ap (λ (r : Run). r.steps) one)

    -- at the end it is all
    module _ (z : more s ≡ false) where
      all_past : (run more turn F s₀).found ≡ h.past
      all_past = h.founds ∙ ap (λ (r : Run). h.past ++ r.found) (run_stop more turn F s z) ∙ append-nil h.past

      pub end_list : list ≡ over (hits P T) d
      end_list = h.lists ∙ ap (λ (xs : List ℕ). over xs d) (sym all_past ∙ finds_all e)

      pub end_work : w ≡ work_of (hits P T) (run more turn F s₀)
      end_work =
          let u = run_stop more turn F s z in
          let a : w.total ≡ length (hits P T) = h.totals ∙ ap length (sym all_past ∙ finds_all e) in
          let b : w.scan ≡ (run more turn F s₀).scan = omega (arith, h.scans, ap (λ (r : Run). r.scan) u) in
          let c : w.shift ≡ (run more turn F s₀).shift = omega (arith, h.shifts, ap (λ (r : Run). r.shift) u) in
          let f : w.steps ≡ (run more turn F s₀).steps = omega (arith, h.word_steps, ap (λ (r : Run). r.steps) u) in
          same a b c f
        where
          same : w.total ≡ length (hits P T) → w.scan ≡ (run more turn F s₀).scan → w.shift ≡ (run more turn F s₀).shift → w.steps ≡ (run more turn F s₀).steps
              → w ≡ work_of (hits P T) (run more turn F s₀)
          same a b c f = rw (← a, ← b, ← c, ← f)

-- The loop of an engine whose state is the start alone: it stands at start i, with m and n in hand
pub record Standing {P T : List ℕ} {turn : ℕ → Turn ℕ} (e : Sound P T (within P T) turn (suc (length T)) 0) (d : List ℕ) (m n i : ℕ) (list : List ℕ) (w : Work) : Type 0 where
  pub pattern : m ≡ length P
  pub text : n ≡ length T
  pub top : i ≤ n + 1
  pub so_far : SoFar e d i list w

module _ {P T : List ℕ} {turn : ℕ → Turn ℕ} (e : Sound P T (within P T) turn (suc (length T)) 0) (d : List ℕ) where
  pub stand : Standing e d (length P) (length T) 0 d (record { total = 0; scan = 0; shift = 0; steps = 0 })
  stand = record { pattern = refl; text = refl; top = omega arith; so_far = start e d }

  module _ (m n i : ℕ) (list : List ℕ) (w : Work) (h : Standing e d m n i list w) where
    pub same_room : length list ≡ length d
    same_room = kept e d i list w h.so_far

    pub few : w.total ≤ suc (length T)
    few = total_le e d i list w h.so_far

    -- a pass of the loop
    module _ (l : i + m ≤ n) where
      goes : within P T i ≡ true
      goes = le-leb (i + length P) (length T) (omega (arith, h.pattern, h.text))

      pub scan_rises : w.scan + (turn i).scan ≤ (run (within P T) turn (suc (length T)) 0).scan
      scan_rises = next_scan_le e d i list w h.so_far goes

      pub steps_rise : w.steps + (turn i).steps ≤ (run (within P T) turn (suc (length T)) 0).steps
      steps_rise = next_steps_le e d i list w h.so_far goes

      -- the hits of the turn are noted, its work is added, and the loop stands at the next start
      pub move_all : (i' : ℕ) (list' : List ℕ) (w' : Work) → i' ≤ n + 1
          → i' ≡ (turn i).next → list' ≡ noted_all (turn i).found list w.total → w'.total ≡ w.total + length (turn i).found
          → w'.scan ≡ w.scan + (turn i).scan → w'.shift ≡ w.shift + (turn i).shift → w'.steps ≡ w.steps + (turn i).steps
          → Standing e d m n i' list' w'
      move_all i' list' w' u ei el et sc sh st =
          record { pattern = h.pattern; text = h.text; top = u; so_far = pass e d i list w h.so_far goes i' list' w' ei el et sc sh st }

      -- where what the step answered is the turn, with one hit at most
      module _ (r : Turned) (q : turn_of i r ≡ turn i) where
        pub scan_fits : w.scan + r.scan ≤ (run (within P T) turn (suc (length T)) 0).scan
        scan_fits = rw (ap (λ (x : Turn ℕ). x.scan) q) scan_rises

        pub shift_fits : w.shift + r.shift ≤ (run (within P T) turn (suc (length T)) 0).shift
        shift_fits = rw (ap (λ (x : Turn ℕ). x.shift) q) (next_shift_le e d i list w h.so_far goes)

        pub move : (list' : List ℕ) (w' : Work) → r.next ≤ n + 1 → list' ≡ noted r.hit list w.total i → w'.total ≡ w.total + tally r.hit
            → w'.scan ≡ w.scan + r.scan → w'.shift ≡ w.shift + r.shift → w'.steps ≡ w.steps
            → Standing e d m n r.next list' w'
        move list' w' u el et sc sh st =
            record {
              pattern = h.pattern;
              text = h.text;
              top = u;
              so_far =
                  pass_one e d i list w h.so_far goes r.next list' w' r.hit i
                  (ap (λ (x : Turn ℕ). x.next) q)
                  (sym (ap (λ (x : Turn ℕ). x.found) q))
                  el
                  et
                  (sc ∙ ap (λ (x : Turn ℕ). w.scan + x.scan) q)
                  (sh ∙ ap (λ (x : Turn ℕ). w.shift + x.shift) q)
                  (let z = ap (λ (x : Turn ℕ). x.steps) q in omega arith);
            }

    -- past the last start it is all
    pub all_done : n < i + m → (w ≡ work_of (hits P T) (run (within P T) turn (suc (length T)) 0)) × (list ≡ over (hits P T) d)
    all_done l =
        let z = lt-leb (i + length P) (length T) (omega (arith, h.pattern, h.text)) in
        (end_work e d i list w h.so_far z, end_list e d i list w h.so_far z)
