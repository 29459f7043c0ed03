-- `first::run` meets its contract: the loop looks at each start in turn, and leaves at the first hit. Assumes nothing.
use Prim.Native.Nat.{ℕ, ◌+◌, ◌*◌, ◌≤◌}
use mathlib.Core.List.{List}
use mathlib.Core.Path.{◌≡◌, sym, ap}
use native.Mathlib.Omega.{arith}
use Rattle.letters.specs.Sizes.{Sized}
use Rattle.hits.specs.Turns.{Turn}
use Rattle.hits.specs.Counts.{turn_of}
use Rattle.hits.specs.declared.work.Turned.{Turned}
use Rattle.hits.proofs.HeadLaws.{Looking, look, look_fits, look_found, look_on, look_end}
use Rattle.brute.specs.Brute.{brute_turn}
use Rattle.first.specs.First.{first_run}
use Rattle.first.proofs.FirstLaws.{first_small}
use Rattle.first.proofs.run.Goals as goal

-- the next start
one_on : (P T : List ℕ) (i : ℕ) (r : Turned) → turn_of i r ≡ brute_turn P T i → r.next ≡ i + 1
unfolding brute_turn
one_on P T i r q = ap (λ (x : Turn ℕ). x.next) q

-- all tests so far, this start's among them, are few
few : {M N : ℕ} {P T : List ℕ} {m n i scan : ℕ} → Sized M N P T → Looking P T (brute_turn P T) m n i scan → i + m ≤ n → (r : Turned) → turn_of i r ≡ brute_turn P T i → scan + r.scan ≤ M * (N + 1)
unfolding first_run
few s h l r q = omega (arith, look_fits _ _ _ _ _ _ _ h l r q, first_small s)

pub loop-i-init : goal.loop-i-init
loop-i-init c = look _ _ _

pub overflow_add-tests : goal.overflow_add-tests
overflow_add-tests c = omega (arith, few c.requires c.loop-i.invariant (omega arith) c.step-s.result c.step-s.ensures)

pub returns-then-s : goal.returns-then-s
unfolding first_run
returns-then-s c =
    let w = look_found _ _ _ _ _ _ _ c.loop-i.invariant (omega arith) c.step-s.result c.step-s.ensures c.if-s.true in
    rw (w.0, w.1)

pub narrowed-scan-requires : goal.narrowed-scan-requires
narrowed-scan-requires c = omega (arith, few c.requires c.loop-i.invariant (omega arith) c.step-s.result c.step-s.ensures)

pub overflow_add-scan : goal.overflow_add-scan
overflow_add-scan c = omega (arith, few c.requires c.loop-i.invariant (omega arith) c.step-s.result c.step-s.ensures)

pub loop-i-preserved : goal.loop-i-preserved
loop-i-preserved c =
    let next = one_on _ _ c.loop-i.i c.step-s.result c.step-s.ensures in
    rw (c.narrowed-scan.ensures, sym next) (look_on _ _ _ _ _ _ _ c.loop-i.invariant (omega arith) c.step-s.result c.step-s.ensures c.if-s.false (omega (arith, next)))

pub returns : goal.returns
unfolding first_run
returns c = let w = look_end _ _ _ _ _ _ _ c.loop-i.invariant (omega arith) in rw (w.0, w.1)
