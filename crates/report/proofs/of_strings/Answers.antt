-- `report::of_strings` meets its contract: all starts are listed, so that what was counted has the report of the values. Assumes nothing.
use Prim.Native.Nat.{ℕ, ◌+◌, ◌^◌, ◌≤◌, ◌<◌}
use mathlib.Core.Path.{◌≡◌, sym, ap, ◌∙◌}
use mathlib.Core.List.{List, []}
use native.Mathlib.Omega.{arith}
use borrow.Author.Rules.{rules}
use lib.ListN.{length, get_or, take}
use lib.Seq.{sets, length-take-le}
use Rattle.hits.specs.Hits.{hits}
use Rattle.hits.specs.Turns.{idle}
use Rattle.hits.specs.Counts.{work_of}
use Rattle.hits.specs.declared.work.Work.{Work}
use Rattle.hits.proofs.HitLaws.{length_hits}
use Rattle.lent.specs.Over.{over}
use Rattle.lent.proofs.OverLaws.{sets_over}
use Rattle.reportbytes.specs.Values.{values_in}
use Rattle.reportbytes.specs.Bytes.{bytes_of}
use Rattle.report.specs.Values.{values_of, works_of}
use Rattle.report.proofs.ValueLaws.{bytes_same}
use Rattle.report.proofs.PromiseLaws.{too_short, fits}
use Rattle.report.proofs.of_strings.Goals as goal

-- how many starts are reported
abbrev total : List Work → ℕ
total works = (get_or works 0 (work_of [] idle)).total

-- all starts are listed, so what was counted and what is listed have the report that is due
record Facts (P T : List ℕ) (works : List Work) (list : List ℕ) : Type 0 where
  within : total works ≤ length list
  few : length (take (total works) list) < 2 ^ 32
  same : bytes_of (values_in works (take (total works) list)) ≡ bytes_of (values_of P T)

facts : (P T d : List ℕ) (works : List Work) (list : List ℕ) → (works ≡ works_of P T) × (list ≡ over (hits P T) d) → length T < length list → length T + 1 < 2 ^ 32
    → Facts P T works list
facts P T d works list e l f =
    let n : total works ≡ length (hits P T) = ap total e.0 in
    let w : total works ≤ length list = omega (arith, length_hits P T) in
    record {
      within = w;
      few = omega (arith, length-take-le (total works) list w, length_hits P T);
      same = bytes_same P T _ _ _ e.0 e.1 (omega arith);
    }

pub slice_bounds-starts-end : goal.slice_bounds-starts-end
slice_bounds-starts-end c = (facts c.args.p.now c.args.t.now _ _ _ c.searched-works.ensures (search rules) (omega arith)).within

pub slice_bounds-listed-end : goal.slice_bounds-listed-end
slice_bounds-listed-end c = sym (length-take-le _ _ (facts c.args.p.now c.args.t.now _ _ _ c.searched-works.ensures (search rules) (omega arith)).within)

pub returns-then-out-report_len : goal.returns-then-out-report_len
returns-then-out-report_len c =
    let a = c.args in
    let f = facts a.p.now a.t.now _ _ _ c.searched-works.ensures (search rules) (omega arith) in
    rw c.at.ensures (too_short (bytes_of (values_of a.p.now a.t.now)) _ (omega (arith, c.if-out-report_len.true, c.report_len.ensures, ap length f.same)))

pub returns : goal.returns
returns c =
    let a = c.args in
    let f = facts a.p.now a.t.now _ _ _ c.searched-works.ensures (search rules) (omega arith) in
    let d = a.out.now in
    let e = c.put_report.ensures in
    let due = bytes_of (values_of a.p.now a.t.now) in
    fits due d (omega (arith, c.if-out-report_len.false, c.report_len.ensures, ap length f.same)) _ _
    (e.0 ∙ ap length f.same)
    (e.1 ∙ ap (sets d 0) f.same ∙ sets_over d due)
