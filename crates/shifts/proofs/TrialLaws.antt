-- The loop that tries shifts up to hi: what it has come to at s, and what it leaves. Assumes nothing.
use mathlib.Core.Path.{◌≡◌, refl, ap, ◌∙◌}
use mathlib.Core.Bool.{Bool, true, false}
use mathlib.Core.List.{List}
use Prim.Native.Nat.{ℕ, suc, ◌+◌, ◌-◌, ◌*◌, ◌^◌, ◌≤◌, ◌<◌}
use native.Mathlib.Numerals.{add-one}
use native.Mathlib.Omega.{arith}
use borrow.Author.Tests.{le-leb, lt-leb, lt-ltb}
use lib.Dec.{leb, ltb}
use lib.ListN.{length}
use Rattle.std.specs.Int.{from_bool}
use Rattle.hits.specs.Counts.{tally}
use Rattle.hits.specs.Scans.{reach}
use Rattle.hits.proofs.ScanLaws.{tests_reach, reach_ge, reach_le, met_reach}
use Rattle.shifts.specs.Least.{least}
use Rattle.shifts.specs.Shift.{fit, trial, trials}
use Rattle.shifts.proofs.LeastLaws.{Seeking, seek_here, seek_on, seek_end}
use Rattle.shifts.proofs.ShiftLaws.{fit_out, fit_in, trial_out, trial_in}

-- the shift is the least from s on, and the tests so far, with those of the trials left, are all
pub record Trying (P T : List ℕ) (i lo hi n m s tests : ℕ) : Type 0 where
  pub text : n ≡ length T
  pub pattern : m ≡ length P
  pub seek : Seeking (fit P T i lo hi) hi 1 s
  pub few : tests ≤ 2 ^ 32 * s
  pub cost : trials P T i lo hi 1 (hi - 1) ≡ tests + trials P T i lo hi s (hi - s)

from_tally : (b : Bool) → from_bool b ≡ tally b
from_tally true = refl
from_tally false = refl

-- the scan of trial s, from a, has come to r, and x counts the pair that stopped it
pub record Scanned (P T : List ℕ) (i lo hi s a r x : ℕ) : Type 0 where
  pub order : lo ≤ hi
  pub more : s < hi
  pub inside : i + s + length P ≤ length T
  pub from : a ≡ lo - s
  pub to : r ≡ reach P T (i + s) a (hi - s - a)
  pub stop : x ≡ from_bool (ltb r (hi - s))

module _ {P T : List ℕ} {i lo hi s a r x : ℕ} (q : Scanned P T i lo hi s a r x) where
  all : a + (hi - s - a) ≡ hi - s
  all = omega arith

  top : r ≤ hi - s
  top = let e = all in omega (arith, reach_le P T (i + s) a (hi - s - a))

  counted : trial P T i lo hi s ≡ r - a + x
  counted =
      let w = rw (all, ← q.to) at (tests_reach P T (i + s) a (hi - s - a)) in
      let v = rw (← q.from) at (trial_in P T i lo hi s q.inside) in
      omega (arith, reach_ge P T (i + s) a (hi - s - a), from_tally (ltb r (hi - s)))

  fits : fit P T i lo hi s ≡ leb (hi - s) r
  fits =
      fit_in P T i lo hi s q.inside
      ∙ rw (← q.from) (met_reach P T (i + s) a (hi - s - a) (hi - s - a) (omega arith) ∙ rw (all, ← q.to))

-- what the loop leaves
abbrev pub Tried : List ℕ → List ℕ → ℕ → ℕ → ℕ → ℕ → ℕ → Type 0
Tried P T i lo hi s tests = (s ≡ least (fit P T i lo hi) 1 (hi - 1)) × (tests ≡ trials P T i lo hi 1 (hi - 1))

module _ {P T : List ℕ} {i lo hi n m s tests : ℕ} (q : Trying P T i lo hi n m s tests) where
  -- s is the last, and its trial took x tests
  here : (x : ℕ) → s < hi → fit P T i lo hi s ≡ true → trial P T i lo hi s ≡ x → Tried P T i lo hi s (tests + x)
  unfolding trials
  here x l y e =
      let z : hi - s ≡ suc (hi - suc s) = omega arith in
      (seek_here (fit P T i lo hi) q.seek y, omega (arith, rw (z, y) at q.cost))

  -- all were tried
  pub try_end : s ≡ hi → Tried P T i lo hi hi tests
  unfolding trials
  try_end l =
      let z : hi - s ≡ 0 = omega arith in
      (rw l at (seek_end (fit P T i lo hi) q.seek (omega arith)), omega (arith, rw z at q.cost))

  -- beyond the last start
  pub try_out : s < hi → length T < i + s + length P → Tried P T i lo hi s tests
  try_out l o = rw (← add_none) (here 0 l (fit_out P T i lo hi s o) (trial_out P T i lo hi s o))
    where
      add_none : tests + 0 ≡ tests
      add_none = omega arith

  module _ {a r x : ℕ} (w : Scanned P T i lo hi s a r x) where
    -- it passes all: the shift fits
    pub try_fit : r ≡ hi - s → Tried P T i lo hi s (tests + (r - a + x))
    try_fit e = here (r - a + x) w.more (fits w ∙ le-leb (hi - s) r (omega arith)) (counted w)

    -- it stops short: one test more than letters passed
    pub try_on : (r ≡ hi - s → ⊥) → hi < 2 ^ 32 → Trying P T i lo hi n m (s + 1) (tests + (r - a + x))
    unfolding trials
    try_on e l =
        let b : r < hi - s = omega (arith, top w) in
        let f : fit P T i lo hi s ≡ false = fits w ∙ lt-leb (hi - s) r b in
        let z : hi - s ≡ suc (hi - (s + 1)) = omega arith in
        let c : trials P T i lo hi s (hi - s) ≡ trial P T i lo hi s + trials P T i lo hi (s + 1) (hi - (s + 1)) = rw (z, f, add-one s) in
        let d = ap from_bool (lt-ltb r (hi - s) b) in
        record {
          text = q.text;
          pattern = q.pattern;
          seek = seek_on (fit P T i lo hi) q.seek w.more f;
          few = omega (arith, q.few, w.stop);
          cost = omega (arith, q.cost, counted w);
        }
