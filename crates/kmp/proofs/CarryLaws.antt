-- What KMP's code carries from turn to turn, where the last letter that is not single stands; and what it makes of what is prepared and carried. Assumes nothing.
use mathlib.Core.Path.{◌≡◌, refl, sym, ◌∙◌}
use mathlib.Core.Bool.{Bool, true, false, ◌&&◌, ◌||◌, and-false}
use mathlib.Core.List.{List, []}
use Prim.Native.Nat.{ℕ, zero, suc, ◌+◌, ◌-◌, ◌≤◌, ◌<◌, min}
use native.Mathlib.Omega.{arith}
use borrow.Author.Tests.{leb-true, leb-false, le-leb, lt-leb, ltb-true, ltb-false}
use lib.Dec.{leb, eqb, ltb}
use lib.ListN.{length, get_or}
use Rattle.letters.specs.Letters.{single}
use Rattle.letters.specs.Members.{keep}
use Rattle.letters.proofs.Truth.{bool_cases, or_false_l, or_false_r}
use Rattle.hits.specs.Counts.{tally}
use Rattle.hits.specs.Scans.{tests}
use Rattle.hits.specs.Turns.{Turn}
use Rattle.hits.specs.Singles.{all_single, not_single_below}
use Rattle.hits.proofs.ScanLaws.{reach_ge, tests_le, tests_reach}
use Rattle.hits.proofs.SingleLaws.{singles_below, below_le, below_past, below_here}
use Rattle.shifts.specs.Least.{least}
use Rattle.shifts.specs.Shift.{fit, trials}
use Rattle.pattern.proofs.EntryLaws.{sure_at, front_table}
use Rattle.pattern.proofs.ShiftTable.{front_shift}
use Rattle.kmp.specs.declared.Standing.{Standing}
use Rattle.kmp.specs.Kmp.{At, Known, KmpReady, NotSingleAt, Scanned, at_of, now_met, shift_by, shift_tests, kmp_turn}
use Rattle.kmp.proofs.KmpLaws.{shift_is, shift_ge, shift_le, shift_top, shift_end}

module _ (T : List ℕ) where
  pub not_single_begin : NotSingleAt T 0 0 0
  not_single_begin = let z = below_le T (0 + 0) in omega arith

  -- the text under the h letters is single exactly if the last letter that is not stands before i
  single_text : (i h u : ℕ) → NotSingleAt T i h u → all_single T i h ≡ leb u i
  single_text i h u e =
      singles_below T i h
      ∙ bool_cases (leb u i)
      (λ y. let k : u ≤ i = leb-true _ _ y in le-leb (not_single_below T (i + h)) i (omega arith) ∙ sym y)
      (λ n. let k : i < u = leb-false _ _ n in lt-leb (not_single_below T (i + h)) i (omega arith) ∙ sym n)

  -- a shift leaves it as it is
  not_single_shifted : (i h u s : ℕ) → NotSingleAt T i h u → 0 < s → s ≤ 1 + (h - 1) → NotSingleAt T (i + s) (h - s) u
  not_single_shifted i zero u s e a b =
      let z : s ≡ 1 = omega arith in
      let x = below_le T (i + 0) in
      let y = below_le T (i + s + (0 - s)) in
      omega arith
  not_single_shifted i (suc h) u s e a b = let z : i + s + (suc h - s) ≡ i + suc h = omega arith in rw z (omega arith)

  -- one letter more, single or not
  pub not_single_past : (i j u : ℕ) → NotSingleAt T i j u → single (get_or T (i + j) 0) ≡ true → NotSingleAt T i (j + 1) u
  not_single_past i j u e y = let z : i + (j + 1) ≡ suc (i + j) = omega arith in rw (z, below_past T (i + j) y) e

  pub not_single_seen : (i j : ℕ) → single (get_or T (i + j) 0) ≡ false → NotSingleAt T i (j + 1) (i + j + 1)
  not_single_seen i j n = let z : i + (j + 1) ≡ suc (i + j) = omega arith in rw (z, below_here T (i + j) n) (omega arith)

-- the shift by what is prepared and carried
module _ {M : ℕ} {P T by : List ℕ} {sure : ℕ} {s : Standing} (pos : 0 < s.known) (ready : KmpReady M P by sure) (k : Known P T s) where
  abbrev i : ℕ
  i = s.start

  abbrev h : ℕ
  h = s.known

  abbrev end : ℕ
  end = length T + 1 - (length P + i)

  -- whether the letters that meet are single, in the pattern and in the text
  pattern_single : all_single P 0 h ≡ leb h sure
  pattern_single = sure_at P sure ready.prefix h k.short

  text_single : all_single T i h ≡ leb s.unsure i
  text_single = single_text T i h s.unsure k.carried

  -- where one is not, the shift is found by trying, which is not past the first start past the last, and the trials are counted
  pub tried : (x c : ℕ) → (ltb sure h || ltb i s.unsure) ≡ true → x ≡ least (fit P T i 0 h) 1 (h - 1) → c ≡ trials P T i 0 h 1 (h - 1)
      → (min x end ≡ shift_by P T i h) × (c ≡ shift_tests P T i h)
  unfolding shift_tests
  tried x c y es ec =
      let z = shift_is P T i h in
      let b = shift_end P T i h k.inside in
      let n : (all_single P 0 h && all_single T i h) ≡ false =
      bool_cases (ltb sure h)
      (λ q. rw (pattern_single, lt-leb h sure (ltb-true _ _ q)))
      (λ q. rw (text_single, lt-leb s.unsure i (ltb-true _ _ (rw q at y))) (and-false (all_single P 0 h)))
      in
      (omega arith, ec ∙ sym (rw n))

  -- else it is the pattern's own, cut there, and takes no test
  pub own : (ltb sure h || ltb i s.unsure) ≡ false → (min (get_or by h 0) end ≡ shift_by P T i h) × (0 ≡ shift_tests P T i h)
  unfolding shift_tests
  own n =
      let p = pattern_single ∙ le-leb h sure (ltb-false _ _ (or_false_l (ltb sure h) (ltb i s.unsure) n)) in
      let t = text_single ∙ le-leb s.unsure i (ltb-false _ _ (or_false_r (ltb sure h) (ltb i s.unsure) n)) in (
        sym (shift_is P T i h ∙ front_shift P T by i h (front_table by ready.sized ready.shifts) pos k.short k.inside k.meet p t),
        sym (rw (p, t)),
      )

-- of at most h, and cut at the end or not
module _ {by end s h : ℕ} (e : min by end ≡ s) (l : s ≤ h) where
  pub cut : end < by → (end ≡ s) × (end ≤ h)
  cut a = omega arith

  pub uncut : by ≤ end → (by ≡ s) × (by ≤ h)
  uncut a = omega arith

-- to the end: to the first start past the last, which lies past i
pub end_way : (x m i : ℕ) → x - m - i ≡ x - (m + i)
end_way x m i = omega arith

-- from where the scan stopped: the shift found is of at most the letters that meet, and cut at the first start past the last or not
module _ {P T : List ℕ} {s c : Standing} {by : ℕ} (m : Scanned P T s c) (pos : 0 < c.known) (e : min by (length T + 1 - (length P + c.start)) ≡ shift_by P T c.start c.known) where
  pub stopped_cut : length T + 1 - length P - s.start < by → (length T + 1 - length P - s.start ≡ shift_by P T c.start c.known) × (length T + 1 - length P - s.start ≤ c.known)
  stopped_cut a = omega (arith, m.same, shift_top P T c.start c.known pos)

  pub stopped_uncut : by ≤ length T + 1 - length P - s.start → (by ≡ shift_by P T c.start c.known) × (by ≤ c.known)
  stopped_uncut a = omega (arith, m.same, shift_top P T c.start c.known pos)

-- that start lies past i
pub end_past : (i m n : ℕ) → i + m ≤ n → i ≤ n + 1 - m
end_past i m n l = omega arith

pub first_past : (i m n : ℕ) → i + m ≤ n → n + 1 - m ≡ i + (n + 1 - m - i)
first_past i m n l = omega arith

pub shift_none : (P T : List ℕ) (i h : ℕ) → h ≡ 0 → (1 ≡ shift_by P T i h) × (0 ≡ shift_tests P T i h)
unfolding shift_by shift_tests all_single
shift_none P T i h e = rw e (refl, refl)

-- a turn from s, whose scan stopped at c
module _ {P T : List ℕ} {s c : Standing} (w : Known P T s) (m : Scanned P T s c) where
  pub scan_on_ge : s.known ≤ c.known
  unfolding now_met
  scan_on_ge = rw m.met (reach_ge P T s.start s.known (length P - s.known))

  -- its tests, as the code adds them up
  pub scan_counted : (x : ℕ) → x ≡ tally (ltb c.known (length P)) → c.known - s.known + x ≡ tests P T s.start s.known (length P - s.known)
  unfolding now_met
  scan_counted x q =
      let z : s.known + (length P - s.known) ≡ length P = omega (arith, w.short) in
      let b = rw (z, ← m.met) at (tests_reach P T s.start s.known (length P - s.known)) in
      omega (arith, b, scan_on_ge)

  pub scan_few : (x : ℕ) → x ≡ tally (ltb c.known (length P)) → c.known - s.known + x ≤ length P
  scan_few x q = omega (arith, scan_counted x q, tests_le P T s.start s.known (length P - s.known))

  -- a turn of the code, number by number, is a turn of the rule; and what it carries still tells
  pub turn_is : (by : ℕ) → by ≡ shift_by P T c.start c.known → (hit : Bool) (start known scan shift : ℕ)
      → hit ≡ eqb c.known (length P) → start ≡ s.start + by → known ≡ c.known - by → scan ≡ tests P T s.start s.known (length P - s.known) → shift ≡ shift_tests P T c.start c.known
      → (◌≡◌ {A = Turn At} (record { found = keep hit s.start []; next = record { start = start; known = known }; scan = scan; shift = shift; steps = 0 })
      (kmp_turn P T (at_of s))) × NotSingleAt T start known c.unsure
  unfolding kmp_turn
  turn_is by eb hit start known scan shift e0 e1 e2 e3 e4 =
      let a = shift_ge P T s.start c.known in
      let b = shift_le P T s.start c.known in
      let z : by ≡ shift_by P T s.start c.known = rw m.same at eb in
      let y : shift ≡ shift_tests P T s.start c.known = rw m.same at e4 in
      (rw (e0, e1, e2, e3, y, z, m.met), rw (e1, e2) (not_single_shifted T s.start c.known c.unsure by (rw m.same at m.here.carried) (omega arith) (omega arith)))
