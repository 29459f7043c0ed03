-- `printed::put_refusal` meets its contract: its four pieces make up the line. Assumes nothing.
use Prim.Native.Nat.{ℕ, ◌+◌, ◌^◌, ◌≤◌, ◌<◌}
use mathlib.Core.Path.{◌≡◌, ap, ◌∙◌}
use mathlib.Core.List.{◌++◌}
use native.Mathlib.Omega.{arith}
use borrow.Author.Rules.{rules}
use lib.ListN.{length}
use Rattle.lent.proofs.OverLaws.{length_over, sets_over}
use Rattle.inputs.specs.Numbers.{number_of}
use Rattle.decimal.specs.Decimal.{ended}
use Rattle.reportbytes.proofs.PutLaws.{put_first, put_room, put_both}
use Rattle.printed.specs.Printed.{refused_name, at_name, refusal_line}
use Rattle.printed.proofs.LineLaws.{line_short}
use Rattle.printed.proofs.put_refusal.Goals as goal

-- the line is put from 0 on
fits : (number place n : ℕ) → number < 2 ^ 64 → place < 2 ^ 64 → 53 ≤ n → 0 + length (refusal_line number place) ≤ n
fits number place n h k l = omega (arith, line_short number place h k)

pub put_ended-b-requires : goal.put_ended-b-requires
unfolding refusal_line
put_ended-b-requires c =
    let n = c.from-2.result in
    let p = c.args.r.place in
    put_first _ _ (ended n 32) (at_name ++ ended p 10) (put_room _ _ refused_name _ c.put_bytes-a.ensures (fits n p _ (search rules) (search rules) c.requires))

pub put_bytes-c-requires : goal.put_bytes-c-requires
unfolding refusal_line
put_bytes-c-requires c =
    let n = c.from-2.result in
    let p = c.args.r.place in
    put_first _ _ at_name (ended p 10)
    (put_room _ _ (ended n 32) _ c.put_ended-b.ensures (put_room _ _ refused_name _ c.put_bytes-a.ensures (fits n p _ (search rules) (search rules) c.requires)))

pub put_ended-requires : goal.put_ended-requires
unfolding refusal_line
put_ended-requires c =
    let n = c.from-2.result in
    let p = c.args.r.place in
    put_room _ _ at_name (ended p 10) c.put_bytes-c.ensures
    (put_room _ _ (ended n 32) _ c.put_ended-b.ensures (put_room _ _ refused_name _ c.put_bytes-a.ensures (fits n p _ (search rules) (search rules) c.requires)))

pub returns : goal.returns
unfolding refusal_line
returns c =
    let n = c.from-2.result in
    let p = c.args.r.place in
    let d = c.args.out.now in
    let q : n ≡ number_of c.args.r.kind = c.from-2.ensures ∙ c.from.ensures in
    let w =
    put_both _ _ refused_name _ c.put_bytes-a.ensures
    (put_both _ _ (ended n 32) _ c.put_ended-b.ensures (put_both _ _ at_name (ended p 10) c.put_bytes-c.ensures c.put_ended.ensures)) in
    let e = w.1 ∙ sets_over d (refusal_line n p) in
    rw (← q) (omega (arith, w.0), e, omega (arith, w.0, fits n p _ (search rules) (search rules) c.requires, ap length e, length_over (refusal_line n p) d))
