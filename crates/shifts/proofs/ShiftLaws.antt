-- Laws of a shift found by trying: what it passes over is no hit, what the trials cost, and where a table gives it. Assumes nothing.
use mathlib.Core.Path.{◌≡◌, sym, ap, ◌∙◌}
use mathlib.Core.Bool.{Bool, true, false, ◌||◌, or-true}
use mathlib.Core.List.{List}
use Prim.Native.Nat.{ℕ, zero, suc, ◌+◌, ◌-◌, ◌*◌, ◌≤◌, ◌<◌, zero-le, min}
use native.Mathlib.Nat.{mul-le-mul_left}
use native.Mathlib.Omega.{arith}
use borrow.Author.Tests.{ltb-false, lt-ltb, le-ltb, le-leb, lt-leb, leb-true, leb-false}
use lib.Dec.{leb, ltb}
use lib.ListN.{length, get_or}
use Rattle.hits.specs.Hits.{hit_at, met}
use Rattle.hits.specs.Scans.{tests}
use Rattle.letters.proofs.Truth.{bool_cases, or_false_l, or_false_r}
use Rattle.hits.proofs.HitLaws.{hit_is}
use Rattle.hits.proofs.ScanLaws.{tests_le}
use Rattle.hits.specs.Singles.{all_single}
use Rattle.shifts.specs.Least.{least}
use Rattle.shifts.specs.Shift.{covers, fit, trial, trials, self_fit}
use Rattle.hits.proofs.SingleLaws.{singles_at}
use Rattle.letters.proofs.LetterLaws.{single_same}
use Rattle.hits.proofs.MetLaws.{met_at, met_miss, met_same}
use Rattle.shifts.proofs.LeastLaws.{least_same, least_cut}

module _ (P T : List ℕ) (i lo hi : ℕ) where
  -- beyond the last start every shift fits
  pub fit_out : (s : ℕ) → length T < i + s + length P → fit P T i lo hi s ≡ true
  unfolding fit
  fit_out s l = rw (lt-ltb (length T) (i + s + length P) l)

  pub fit_in : (s : ℕ) → i + s + length P ≤ length T → fit P T i lo hi s ≡ met P T (i + s) (lo - s) (covers lo hi s)
  unfolding fit
  fit_in s l = rw (le-ltb (length T) (i + s + length P) l)

  pub trial_out : (s : ℕ) → length T < i + s + length P → trial P T i lo hi s ≡ 0
  unfolding trial
  trial_out s l = rw (lt-leb (i + s + length P) (length T) l)

  pub trial_in : (s : ℕ) → i + s + length P ≤ length T → trial P T i lo hi s ≡ tests P T (i + s) (lo - s) (covers lo hi s)
  unfolding trial
  trial_in s l = rw (le-leb (i + s + length P) (length T) l)

  -- so does one by all of them
  pub fit_all : (s : ℕ) → hi ≤ s → fit P T i lo hi s ≡ true
  unfolding fit met
  fit_all s l = let z : covers lo hi s ≡ 0 = omega arith in rw z (or-true (ltb (length T) (i + s + length P)))

  pub unfit_in : (s : ℕ) → fit P T i lo hi s ≡ false → i + s + length P ≤ length T
  unfolding fit
  unfit_in s e = ltb-false _ _ (or_false_l (ltb (length T) (i + s + length P)) (met P T (i + s) (lo - s) (covers lo hi s)) e)

  -- a start whose shift does not fit is no hit
  pub unfit : (s : ℕ) → lo ≤ hi → hi ≤ length P → fit P T i lo hi s ≡ false → hit_at P T (i + s) ≡ false
  unfolding fit
  unfit s o l e =
      hit_is P T (i + s) (unfit_in s e)
      ∙ met_miss P T (i + s) (lo - s) (covers lo hi s) (length P) (or_false_r (ltb (length T) (i + s + length P)) _ e) (omega arith)

  -- where the letters of P and of the text there are single, the text shows P itself
  module _ (o : lo ≤ hi) (meet : met P T i lo (hi - lo) ≡ true) (sp : all_single P lo (hi - lo) ≡ true) (st : all_single T (i + lo) (hi - lo) ≡ true) where
    same : (x : ℕ) → lo ≤ x → x < hi → get_or T (i + x) 0 ≡ get_or P x 0
    same x l k =
        sym
        (single_same _ _ (singles_at P lo (hi - lo) x sp l (omega arith)) (singles_at T (i + lo) (hi - lo) (i + x) st (omega arith) (omega arith))
        (met_at P T i lo (hi - lo) x meet l (omega arith)))

    fit_self : (s : ℕ) → fit P T i lo hi s ≡ (ltb (length T) (i + s + length P) || self_fit P lo hi s)
    unfolding fit self_fit
    fit_self s =
        ap (λ (b : Bool). ltb (length T) (i + s + length P) || b)
        (met_same P T P (i + s) s (lo - s) (covers lo hi s)
        (λ j l k. let z : i + s + j ≡ i + (s + j) = omega arith in rw z (same (s + j) (omega arith) (omega arith))))

    -- the least shift is the pattern's own, cut to the first start past the last
    pub least_plain : (f : ℕ) → i + length P ≤ length T → least (fit P T i lo hi) 1 f ≡ min (least (self_fit P lo hi) 1 f) (length T + 1 - (length P + i))
    least_plain f l =
        least_same (fit P T i lo hi) (λ (s : ℕ). ltb (length T) (i + s + length P) || self_fit P lo hi s) 1 f (λ s u v. fit_self s)
        ∙ least_cut (self_fit P lo hi) i (length P) (length T) 1 f (omega arith) l

  module _ (pos : 0 < length P) (o : lo ≤ hi) (top : hi ≤ length P) where
    -- one trial: at most m - 1 tests, and none past the last start
    trial_le : (s : ℕ) → 0 < s → trial P T i lo hi s ≤ length P - 1
    unfolding trial
    trial_le s z =
        bool_cases (leb (i + s + length P) (length T))
        (λ y. rw y (omega (arith, tests_le P T (i + s) (lo - s) (covers lo hi s))))
        (λ n. rw n zero-le)

    abbrev left : ℕ → ℕ
    left d = (length P - 1) * (length T - length P - (i + d))

    left_one : (d : ℕ) → i + suc d + length P ≤ length T → length P - 1 + left (suc d) ≤ left d
    left_one d l =
        let e : suc (length T - length P - (i + suc d)) ≤ length T - length P - (i + d) = omega arith in
        omega (arith, mul-le-mul_left (length P - 1) e)

    left_le : (d : ℕ) → left (suc d) ≤ left d
    left_le d = let e : length T - length P - (i + suc d) ≤ length T - length P - (i + d) = omega arith in mul-le-mul_left (length P - 1) e

    -- what the trials cost is paid by the starts passed
    pub trials_pay : (d f : ℕ) → trials P T i lo hi (suc d) f + left (least (fit P T i lo hi) (suc d) f) ≤ left d
    unfolding trials least
    trials_pay d zero = omega (arith, left_le d)
    trials_pay d (suc f) =
        bool_cases (fit P T i lo hi (suc d))
        (λ y. rw y
        (bool_cases (leb (i + suc d + length P) (length T))
        (λ e. let l : i + suc d + length P ≤ length T = leb-true _ _ e in omega (arith, trial_le (suc d) (omega arith), left_one d l))
        (λ e. let l : length T < i + suc d + length P = leb-false _ _ e in omega (arith, trial_out (suc d) l, left_le d))))
        (λ n. rw n (omega (arith, trial_le (suc d) (omega arith), left_one d (unfit_in (suc d) n), trials_pay (suc d) f)))
