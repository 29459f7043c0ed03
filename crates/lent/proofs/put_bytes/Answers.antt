-- `lent::put_bytes` meets its contract. The loop keeps that the first i bytes are written. Assumes nothing.
use Prim.Native.Nat.{◌+◌}
use mathlib.Core.Path.{◌≡◌, refl, sym, ap, ◌∙◌}
use mathlib.Core.List.{[], ◌∷◌, ◌++◌}
use native.Mathlib.Omega.{arith}
use native.Mathlib.Numerals.{add-one}
use lib.ListN.{length, get_or, take}
use lib.Seq.{sets, length-sets, take-suc, length-take-le}
use Rattle.lent.proofs.StoreLaws.{sets_on}
use Rattle.lent.proofs.put_bytes.Goals as goal

pub bounds-out-at : goal.bounds-out-at
bounds-out-at c = let a = c.args in
    omega (arith, c.requires, ap length c.loop-i.invariant, length-sets a.out.now a.at (take c.loop-i.i a.bytes.now))

pub loop-i-preserved : goal.loop-i-preserved
loop-i-preserved c = let a = c.args in
    let i = c.loop-i.i in
    let bs = a.bytes.now in
    let n = length-take-le i bs (omega arith) in
    let t : take (i + 1) bs ≡ take i bs ++ (get_or bs i 0 ∷ []) = rw (add-one i) (take-suc bs i 0 (omega arith)) in
    sets_on a.out.now c.loop-i.out _ a.at (a.at + i) (take i bs) (get_or bs i 0 ∷ []) c.loop-i.invariant (omega arith) refl ∙ ap (sets a.out.now a.at) (sym t)
