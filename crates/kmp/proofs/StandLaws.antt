-- What the loop of KMP keeps, and the laws that answer its needs. Assumes nothing.
use mathlib.Core.Path.{◌≡◌, refl, sym, ap, ◌∙◌}
use mathlib.Core.Bool.{true}
use mathlib.Core.List.{List}
use Prim.Native.Nat.{ℕ, suc, ◌+◌, ◌≤◌, ◌<◌}
use borrow.Author.Tests.{le-leb, lt-leb}
use native.Mathlib.Omega.{arith}
use lib.ListN.{length}
use Rattle.lent.specs.Over.{over}
use Rattle.hits.specs.Hits.{hits}
use Rattle.hits.specs.Turns.{Turn}
use Rattle.hits.specs.Counts.{tally, noted, work_of}
use Rattle.hits.specs.declared.work.Work.{Work}
use Rattle.hits.proofs.LoopLaws.{SoFar, start, pass_one, kept, total_le, next_scan_le, next_shift_le, end_list, end_work}
use Rattle.kmp.specs.declared.KmpTurned.{KmpTurned}
use Rattle.kmp.specs.declared.Standing.{Standing}
use Rattle.kmp.specs.Kmp.{At, Known, NotSingleAt, at_of, kmp_more, kmp_turn, kmp_run, kmp_turn_of}
use Rattle.kmp.proofs.KmpLaws.{sound, goes_on}
use Rattle.kmp.proofs.CarryLaws.{not_single_begin}

-- it stands at s, with m and n in hand
pub record KmpStanding (P T d : List ℕ) (m n : ℕ) (s : Standing) (list : List ℕ) (w : Work) : Type 0 where
  pub pattern : m ≡ length P
  pub text : n ≡ length T
  pub top : s.start ≤ n + 1
  pub carried : NotSingleAt T s.start s.known s.unsure
  pub so_far : SoFar (sound P T) d (at_of s) list w

pub stand : (P T d : List ℕ) → KmpStanding P T d (length P) (length T) (record { start = 0; known = 0; unsure = 0 }) d (record { total = 0; scan = 0; shift = 0; steps = 0 })
stand P T d = record { pattern = refl; text = refl; top = omega arith; carried = not_single_begin T; so_far = start (sound P T) d }

module _ {P T d : List ℕ} {m n : ℕ} {s : Standing} {list : List ℕ} {w : Work} (h : KmpStanding P T d m n s list w) where
  pub same_room : length list ≡ length d
  same_room = kept (sound P T) d (at_of s) list w h.so_far

  pub few : w.total ≤ suc (length T)
  few = total_le (sound P T) d (at_of s) list w h.so_far

  module _ (l : s.start + m ≤ n) where
    inside : s.start + length P ≤ length T
    inside = omega (arith, h.pattern, h.text)

    goes : kmp_more P T (at_of s) ≡ true
    goes = le-leb (s.start + length P) (length T) inside

    pub known : Known P T s
    unfolding sound
    known = record { inside = inside; short = h.so_far.fine.short; meet = h.so_far.fine.known_met inside; carried = h.carried }

    -- a pass of the loop: what the step answered is the turn there
    module _ (x : KmpTurned) (q : kmp_turn_of s.start x ≡ kmp_turn P T (at_of s)) where
      pub scan_fits : w.scan + x.scan ≤ (kmp_run P T).scan
      unfolding kmp_run
      scan_fits = rw (ap (λ (y : Turn At). y.scan) q) (next_scan_le (sound P T) d (at_of s) list w h.so_far goes)

      pub shift_fits : w.shift + x.shift ≤ (kmp_run P T).shift
      unfolding kmp_run
      shift_fits = rw (ap (λ (y : Turn At). y.shift) q) (next_shift_le (sound P T) d (at_of s) list w h.so_far goes)

      pub on : (s.start < x.next.start) × (x.next.start ≤ length T + 1)
      unfolding sound
      on = rw (ap (λ (y : Turn At). y.next.start) q) (goes_on P T (at_of s) h.so_far.fine inside)

      -- the hit is noted, the tests are added, and the loop stands at the next start
      pub move : NotSingleAt T x.next.start x.next.known x.next.unsure → (list' : List ℕ) (w' : Work) → list' ≡ noted x.hit list w.total s.start → w'.total ≡ w.total + tally x.hit
          → w'.scan ≡ w.scan + x.scan → w'.shift ≡ w.shift + x.shift → w'.steps ≡ w.steps
          → KmpStanding P T d m n x.next list' w'
      move v list' w' el et sc sh st =
          record {
            pattern = h.pattern;
            text = h.text;
            top = omega (arith, on, h.text);
            carried = v;
            so_far =
                pass_one (sound P T) d (at_of s) list w h.so_far goes (at_of x.next) list' w' x.hit s.start
                (ap (λ (y : Turn At). y.next) q)
                (sym (ap (λ (y : Turn At). y.found) q))
                el
                et
                (sc ∙ ap (λ (y : Turn At). w.scan + y.scan) q)
                (sh ∙ ap (λ (y : Turn At). w.shift + y.shift) q)
                (let z = ap (λ (y : Turn At). y.steps) q in omega arith);
          }

  -- past the last start it is all
  pub all_done : n < s.start + m → (w ≡ work_of (hits P T) (kmp_run P T)) × (list ≡ over (hits P T) d)
  unfolding kmp_run
  all_done l =
      let z = lt-leb (s.start + length P) (length T) (omega (arith, h.pattern, h.text)) in
      (end_work (sound P T) d (at_of s) list w h.so_far z, end_list (sound P T) d (at_of s) list w h.so_far z)
