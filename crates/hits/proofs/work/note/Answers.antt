-- `hits::work::note` meets its contract: with room or without, the list is `set`. Assumes nothing.
use mathlib.Core.Path.{◌≡◌, refl, sym, ◌∙◌}
use native.Mathlib.Omega.{arith}
use lib.ListN.{set}
use lib.Seq.{set_out}
use Rattle.hits.proofs.work.note.Goals as goal
use Rattle.hits.proofs.work.note.Goals.{then-total-list, else-total-list}

pub returns-then-not-hit : goal.returns-then-not-hit
returns-then-not-hit c = rw c.if-not-hit.true (omega arith, refl)

pub returns : goal.returns
returns c =
    let stored : c.if-total-list.list ≡ set c.args.list.now c.args.total c.args.at =
    elim c.if-total-list.branch [ then-total-list w ↦ w.list-is | else-total-list w ↦ w.list-is ∙ sym (set_out _ _ _ w.if-total-list.false) ] in
    rw c.if-not-hit.false (refl, stored)
