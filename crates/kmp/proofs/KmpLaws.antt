-- KMP is sound, so its run finds the hits; and what its run costs. Assumes nothing.
use mathlib.Core.Path.{◌≡◌, refl, sym, ap, ◌∙◌}
use mathlib.Core.Bool.{Bool, true, false, ◌&&◌}
use mathlib.Core.Logic.{⊎_elim}
use mathlib.Core.List.{List, []}
use Prim.Native.Nat.{ℕ, zero, suc, ◌+◌, ◌-◌, ◌*◌, ◌≤◌, ◌<◌, zero-le}
use native.Mathlib.Nat.{eq-zero-or-pos, mul_comm}
use native.Mathlib.Omega.{arith}
use borrow.Author.Tests.{leb-true, leb-false, ne_eqb, lt-leb}
use lib.Dec.{leb, eqb, ltb}
use lib.ListN.{length}
use Rattle.letters.specs.Members.{keep}
use Rattle.letters.specs.Sizes.{Sized}
use Rattle.letters.proofs.Truth.{bool_cases}
use Rattle.hits.specs.Hits.{met, hit_at, hits}
use Rattle.hits.specs.Turns.{Turn, Run, idle}
use Rattle.hits.specs.Scans.{reach}
use Rattle.hits.proofs.HitLaws.{one_from}
use Rattle.hits.proofs.ListLaws.{tally_le}
use Rattle.hits.proofs.ScanLaws.{reach_ge, reach_le, reach_hit, tests_le, tests_reach}
use Rattle.hits.proofs.RunLaws.{Sound, run_stop, finds_all, bounded, shift_small}
use Rattle.hits.specs.Singles.{all_single}
use Rattle.shifts.specs.Least.{least}
use Rattle.shifts.specs.Shift.{fit, trials}
use Rattle.hits.proofs.MetLaws.{met_none}
use Rattle.shifts.proofs.LeastLaws.{least_ge, least_le, least_has, least_first}
use Rattle.shifts.proofs.ShiftLaws.{fit_in, fit_all, unfit_in, unfit, trials_pay}
use Rattle.kmp.specs.Kmp.{At, now_met, shift_by, shift_tests, kmp_turn, kmp_more, kmp_run}

-- before the last start a shift fits exactly if P's first h - s letters meet the text from i + s on
pub fit_prefix : (P T : List ℕ) (i h s : ℕ) → i + s + length P ≤ length T → fit P T i 0 h s ≡ met P T (i + s) 0 (h - s)
fit_prefix P T i h s l =
    let z : 0 - s ≡ 0 = omega arith in
    let y : h - s - 0 ≡ h - s = omega arith in
    rw (fit_in P T i 0 h s l, z, y)

-- at h = 0 the least shift is 1 too
pub shift_is : (P T : List ℕ) (i h : ℕ) → shift_by P T i h ≡ least (fit P T i 0 h) 1 (h - 1)
unfolding shift_by least
shift_is P T i zero = refl
shift_is P T i (suc h) = rw (ne_eqb (suc h) 0 (λ e. omega arith))

module _ (P T : List ℕ) (i h : ℕ) where
  pub shift_ge : 1 ≤ shift_by P T i h
  shift_ge = rw (shift_is P T i h) (least_ge (fit P T i 0 h) 1 (h - 1))

  pub shift_le : shift_by P T i h ≤ 1 + (h - 1)
  shift_le = rw (shift_is P T i h) (least_le (fit P T i 0 h) 1 (h - 1))

  pub shift_top : 0 < h → shift_by P T i h ≤ h
  shift_top l = omega (arith, shift_le)

  pub shift_fits : 0 < h → fit P T i 0 h (shift_by P T i h) ≡ true
  shift_fits l = rw (shift_is P T i h) (least_has (fit P T i 0 h) 1 (h - 1) (fit_all P T i 0 h (1 + (h - 1)) (omega arith)))

  pub shift_first : (j : ℕ) → 0 < j → j < shift_by P T i h → fit P T i 0 h j ≡ false
  shift_first j a b = least_first (fit P T i 0 h) 1 (h - 1) j a (rw (shift_is P T i h) at b)

  -- at most to the first start past the last
  pub shift_end : i + length P ≤ length T → shift_by P T i h ≤ length T + 1 - (length P + i)
  shift_end l =
      let e = length T + 1 - (length P + i) in
      bool_cases (leb (shift_by P T i h) e)
      (λ y. leb-true _ _ y)
      (λ n. let a : e < shift_by P T i h = leb-false _ _ n in
      absurd (let w = unfit_in P T i 0 h e (shift_first e (omega arith) a) in omega arith))

module _ (P T : List ℕ) where
  -- what is kept from turn to turn: the known letters meet, unless the start is past the last
  pub record Ok (s : At) : Type 0 where
    pub short : s.known ≤ length P
    pub known_met : s.start + length P ≤ length T → met P T s.start 0 s.known ≡ true

  module _ (s : At) (o : Ok s) (l : s.start + length P ≤ length T) where
    abbrev h : ℕ
    h = now_met P T s

    abbrev by : ℕ
    by = shift_by P T s.start h

    pub top : h ≤ length P
    unfolding now_met
    top = omega (arith, reach_le P T s.start s.known (length P - s.known), o.short)

    -- all of P meets exactly at a hit
    pub hit_now : eqb h (length P) ≡ hit_at P T s.start
    unfolding now_met
    hit_now = reach_hit P T s.start s.known l o.short (o.known_met l)

    pub still : Ok (kmp_turn P T s).next
    unfolding kmp_turn
    still =
        let t = top in
        let g = shift_ge P T s.start h in
        record {
          short = omega arith;
          known_met = λ q.
              ⊎_elim
              (λ (z : h ≡ 0). let y : h - by ≡ 0 = omega arith in rw y (met_none P T (s.start + by) 0))
              (λ (z : 0 < h). sym (fit_prefix P T s.start h by q) ∙ shift_fits P T s.start h z)
              (eq-zero-or-pos h);
        }

    -- no start that a shift passes over is a hit
    pub none : (j : ℕ) → s.start < j → j < s.start + by → hit_at P T j ≡ false
    none j a b =
        let e : s.start + (j - s.start) ≡ j = omega arith in
        rw e at
        (unfit P T s.start 0 h (j - s.start) zero-le top (shift_first P T s.start h (j - s.start) (omega arith) (omega arith)))

    -- a turn moves on, and not past the text's end but by one
    pub goes_on : (s.start < (kmp_turn P T s).next.start) × ((kmp_turn P T s).next.start ≤ length T + 1)
    unfolding kmp_turn
    goes_on = omega (arith, top, shift_ge P T s.start h, shift_le P T s.start h)

  -- every start below the present one is settled
  unfoldable pub sound : Sound P T (kmp_more P T) (kmp_turn P T) (suc (length T)) (record { start = 0; known = 0 })
  unfolding kmp_turn
  sound =
      record {
        left = λ (s : At). length T + 1 - (s.start + length P);
        settled = λ (s : At). s.start;
        ok = Ok;
        begins = record { short = zero-le; known_met = λ q. met_none P T 0 0 };
        enough = omega arith;
        nothing = refl;
        fair = λ s o y.
            let l : s.start + length P ≤ length T = leb-true _ _ y in
            let g = shift_ge P T s.start (now_met P T s) in
            let gap = shift_by P T s.start (now_met P T s) in
            let z : gap ≡ suc (gap - 1) = omega arith in
            record {
              falls = omega arith;
              still = still s o l;
              gap = suc (gap - 1);
              moved = ap (λ (x : ℕ). s.start + x) z;
              right =
                  ap (λ (b : Bool). keep b s.start []) (hit_now s o l)
                  ∙ sym (one_from P T (gap - 1) s.start (λ j a b. none s o l j a (omega arith)));
            };
        ends = λ s o n. leb-false _ _ n;
      }

  -- the rule's run finds exactly the hits
  pub kmp_finds : (kmp_run P T).found ≡ hits P T
  unfolding kmp_run
  kmp_finds = finds_all sound

  -- a pattern longer than the text: no turn, and no count
  pub kmp_idle : length T < length P → kmp_run P T ≡ idle
  unfolding kmp_run
  kmp_idle l = run_stop (kmp_more P T) (kmp_turn P T) (suc (length T)) (record { start = 0; known = 0 }) (lt-leb (0 + length P) (length T) (omega arith))

  -- what is left to pay the scan with
  abbrev φ : At → ℕ
  φ s = 2 * length T - length P - (2 * s.start + s.known)

  pays : (s : At) → Ok s → s.start + length P ≤ length T → (kmp_turn P T s).scan + φ (kmp_turn P T s).next ≤ φ s
  unfolding kmp_turn now_met
  pays s o l =
      let r = s.known in
      let h = reach P T s.start r (length P - r) in
      let a = tests_le P T s.start r (length P - r) in
      let b = tests_reach P T s.start r (length P - r) in
      let t = tally_le (ltb h (r + (length P - r))) in
      let g = shift_ge P T s.start h in
      let k = shift_le P T s.start h in
      let u = reach_ge P T s.start r (length P - r) in
      let v = reach_le P T s.start r (length P - r) in
      let w = o.short in
      omega arith

  -- scan tests: at most 2n - m
  pub kmp_scan : (kmp_run P T).scan ≤ 2 * length T - length P
  unfolding kmp_run sound
  kmp_scan =
      let h : (kmp_run P T).scan ≤ 2 * length T - length P - (2 * 0 + 0) =
      bounded sound (λ (r : Run). r.scan) (λ (t : Turn At). t.scan) refl (λ t r. refl) φ (λ s o y. pays s o (leb-true _ _ y))
      in
      omega arith

  -- what is left to pay the trials with
  abbrev ψ : At → ℕ
  ψ s = (length P - 1) * (length T - length P - s.start)

  tests_cut : (s : At) → (kmp_turn P T s).shift ≤ trials P T s.start 0 (now_met P T s) 1 (now_met P T s - 1)
  unfolding kmp_turn shift_tests
  tests_cut s =
      bool_cases (all_single P 0 (now_met P T s) && all_single T s.start (now_met P T s)) (λ e. rw e zero-le) (λ e. rw e (omega arith))

  untried : (i h : ℕ) → h ≡ 0 → trials P T i 0 h 1 (h - 1) ≡ 0
  unfolding trials
  untried i h z = rw z

  pays_shift : (s : At) → Ok s → s.start + length P ≤ length T → (kmp_turn P T s).shift + ψ (kmp_turn P T s).next ≤ ψ s
  unfolding kmp_turn
  pays_shift s o l = ⊎_elim empty some (eq-zero-or-pos (length P))
    where
      empty : length P ≡ 0 → (kmp_turn P T s).shift + ψ (kmp_turn P T s).next ≤ ψ s
      empty z =
          let n : now_met P T s ≡ 0 = omega (arith, top s o l) in
          let y : length P - 1 ≡ 0 = omega arith in
          rw y (omega (arith, tests_cut s, untried s.start (now_met P T s) n))

      some : 0 < length P → (kmp_turn P T s).shift + ψ (kmp_turn P T s).next ≤ ψ s
      some pos =
          let z : s.start + 0 ≡ s.start = omega arith in
          let e =
          rw (← shift_is P T s.start (now_met P T s), z) at
          (trials_pay P T s.start 0 (now_met P T s) pos zero-le (top s o l) 0 (now_met P T s - 1))
          in
          omega (arith, e, tests_cut s)

  -- shift tests: at most (n - m)(m - 1)
  pub kmp_shift : (kmp_run P T).shift ≤ (length T - length P) * (length P - 1)
  unfolding kmp_run sound
  kmp_shift =
      let h : (kmp_run P T).shift ≤ (length P - 1) * (length T - length P - 0) =
      bounded sound (λ (r : Run). r.shift) (λ (t : Turn At). t.shift) refl (λ t r. refl) ψ (λ s o y. pays_shift s o (leb-true _ _ y))
      in
      let z : length T - length P - 0 ≡ length T - length P = omega arith in
      rw (mul_comm (length T - length P) (length P - 1)) (rw z at h)

-- Within the limits both fit a word
module _ {M N : ℕ} {P T : List ℕ} (s : Sized M N P T) where
  pub kmp_scan_small : (kmp_run P T).scan ≤ 2 * N
  kmp_scan_small = omega (arith, kmp_scan P T, s.small)

  pub kmp_shift_small : (kmp_run P T).shift ≤ N * M
  kmp_shift_small = shift_small s (kmp_run P T).shift (kmp_shift P T)
