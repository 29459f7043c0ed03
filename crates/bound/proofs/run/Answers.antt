-- `bound::run` meets its contract: the loop notes each start in turn. Assumes nothing.
use native.Mathlib.Omega.{arith}
use Prim.Native.Nat.{suc}
use lib.ListN.{length}
use Rattle.hits.proofs.StartLaws.{noting_none, noting_few, noting_on, noting_end}
use Rattle.choices.specs.Choices.{bound_hits}
use Rattle.choices.proofs.BoundLaws.{no_bound_past}
use Rattle.bound.proofs.run.Goals as goal

pub loop-i-init : goal.loop-i-init
loop-i-init c = noting_none _ _

pub note-total-requires : goal.note-total-requires
note-total-requires c =
    let f = noting_few _ _ _ _ _ c.loop-i.invariant in
    (omega (arith, c.requires.small, c.saturating_sub-starts.ensures), omega (arith, c.requires.small, c.saturating_sub-starts.ensures))

pub loop-i-preserved : goal.loop-i-preserved
loop-i-preserved c = noting_on _ _ _ _ _ c.loop-i.invariant _ _ _ c.is_listed-listed.ensures c.note-total.ensures.1 c.note-total.ensures.0

pub returns : goal.returns
unfolding bound_hits
returns c =
    let a = c.args in
    let w = noting_end _ _ _ _ _ c.loop-i.invariant (suc (length a.t.now)) (omega (arith, c.saturating_sub-starts.ensures)) (λ j u v. no_bound_past a.p.now a.t.now j (omega (arith, c.saturating_sub-starts.ensures))) in
    (w.1, w.0)
