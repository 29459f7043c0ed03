-- `Readied::step` of KMP meets its contract: number by number it is a turn of the rule. Assumes nothing.
use Prim.Native.Nat.{◌^◌, ◌<◌}
use mathlib.Core.Path.{refl, sym, ap}
use mathlib.Core.Bool.{false}
use native.Mathlib.Nat.{lt_of_le_of_lt}
use native.Mathlib.Omega.{arith}
use borrow.Author.Tests.{lt-ltb, ne_eqb}
use lib.ListN.{length}
use Rattle.hits.specs.Counts.{tally}
use Rattle.kmp.proofs.CarryLaws.{shift_none, scan_on_ge, scan_counted, scan_few, stopped_cut, stopped_uncut, first_past, turn_is}
use Rattle.kmp.proofs.Readied.step.Goals as goal

pub returns-then-h-eq0 : goal.returns-then-h-eq0
returns-then-h-eq0 c =
    let P = c.args.self.now.p.now in
    let m = c.scan_on-c.result in
    let e = c.scan_on-c.ensures in
    let l : m.known < length P = omega (arith, c.args.self.now.ready.sized.some) in
    let n = shift_none P c.args.t.now m.start m.known c.if-h-eq0.true in
    rw c.moved.ensures
    (turn_is c.requires e 1 n.0 false _ 0 1 0
    (sym (ne_eqb m.known (length P) (λ z. omega arith)))
    refl
    (omega arith)
    (omega (arith, scan_counted c.requires e 1 (sym (ap tally (lt-ltb m.known (length P) l))), scan_on_ge c.requires e))
    n.1)

pub overflow_sub-scan : goal.overflow_sub-scan
overflow_sub-scan c = scan_on_ge c.requires c.scan_on-c.ensures

pub overflow_add-scan : goal.overflow_add-scan
overflow_add-scan c =
    let long : length c.args.self.now.p.now < 2 ^ 64 = omega arith in
    record { fits = lt_of_le_of_lt (scan_few c.requires c.scan_on-c.ensures _ c.from.ensures) long }

pub shift_by-b-requires : goal.shift_by-b-requires
shift_by-b-requires c = (omega arith, c.scan_on-c.ensures.here)

pub overflow_sub-h : goal.overflow_sub-h
overflow_sub-h c = (stopped_cut c.scan_on-c.ensures (omega arith) c.shift_by-b.ensures.0 c.if-end-b.true).1

pub returns-then-end-b : goal.returns-then-end-b
returns-then-end-b c =
    let e = c.scan_on-c.ensures in
    rw c.moved-then-end-b.ensures
    (turn_is c.requires e _ (stopped_cut e (omega arith) c.shift_by-b.ensures.0 c.if-end-b.true).0 _ _ _ _ _
    refl
    (first_past _ _ _ c.requires.inside)
    refl
    (scan_counted c.requires e _ c.from.ensures)
    c.shift_by-b.ensures.1)

pub overflow_sub-h-2 : goal.overflow_sub-h-2
overflow_sub-h-2 c = (stopped_uncut c.scan_on-c.ensures (omega arith) c.shift_by-b.ensures.0 c.if-end-b.false).1

pub returns : goal.returns
returns c =
    let e = c.scan_on-c.ensures in
    rw c.moved-2.ensures
    (turn_is c.requires e _ (stopped_uncut e (omega arith) c.shift_by-b.ensures.0 c.if-end-b.false).0 _ _ _ _ _
    refl
    refl
    refl
    (scan_counted c.requires e _ c.from.ensures)
    c.shift_by-b.ensures.1)
