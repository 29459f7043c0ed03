-- How much each engine counts at most, within the limits. Assumes nothing.
use Prim.Native.Nat.{ℕ, zero, suc, ◌+◌, ◌*◌, ◌≤◌}
use mathlib.Core.Path.{◌≡◌, refl, ap, ◌∙◌}
use mathlib.Core.Bool.{Bool}
use mathlib.Core.List.{List, []}
use native.Mathlib.Omega.{arith}
use Rattle.letters.specs.Sizes.{Sized}
use Rattle.letters.proofs.Truth.{bool_cases}
use Rattle.hits.specs.Turns.{Turn, Run, idle, after, run}
use Rattle.hits.proofs.RunLaws.{run_stop, run_on}
use Rattle.brute.specs.Brute.{brute_turn, brute_run}
use Rattle.brute.proofs.BruteLaws.{brute_small}
use Rattle.kmp.specs.Kmp.{kmp_turn, kmp_run}
use Rattle.kmp.proofs.KmpLaws.{kmp_scan_small, kmp_shift_small}
use Rattle.bm.specs.Bm.{bm_turn, bm_run}
use Rattle.bm.proofs.BmLaws.{bm_scan_small, bm_shift_small}
use Rattle.sunday.specs.Sunday.{sunday_turn, sunday_run}
use Rattle.sunday.proofs.SundayLaws.{sunday_small}
use Rattle.shiftand.proofs.ShiftAndLaws.{shiftand_scan, shiftand_shift, shiftand_small}
use Rattle.hybrid.specs.Hybrid.{hybrid_turn, hybrid_run}
use Rattle.hybrid.proofs.HybridLaws.{last_meets, turn_yes, turn_no, hybrid_scan, hybrid_steps}
use Rattle.engines.specs.declared.engine.Engine.{Engine}
use Rattle.engines.specs.declared.engine.Engine.TheVariants.{Brute, Kmp, Bm, Sunday, ShiftAnd, Hybrid}
use Rattle.engines.specs.Engines.{run_of}

-- a rule whose turns never add to a count
module _ {S : Type 0} (more : S → Bool) (turn : S → Turn S) (cost : Run → ℕ) (own : Turn S → ℕ) (none : cost idle ≡ 0) (adds : (t : Turn S) (r : Run) → cost (after t r) ≡ own t + cost r) (free : (s : S) → own (turn s) ≡ 0) where
  run_none : (f : ℕ) (s : S) → cost (run more turn f s) ≡ 0
  unfolding run
  run_none zero s = none
  run_none (suc f) s =
      bool_cases (more s)
      (λ y. ap cost (run_on more turn f s y) ∙ adds (turn s) (run more turn f (turn s).next) ∙ (let a = free s in let b = run_none f (turn s).next in omega arith))
      (λ n. ap cost (run_stop more turn (suc f) s n) ∙ none)

  never : (f : ℕ) (s : S) → cost (run more turn f s) ≤ 0
  never f s = omega (arith, run_none f s)

-- the same for the shift tests and for the word steps
module _ {S : Type 0} (more : S → Bool) (turn : S → Turn S) (f : ℕ) (s : S) where
  no_shifts : ((s : S) → (turn s).shift ≡ 0) → (run more turn f s).shift ≤ 0
  no_shifts free = never more turn (λ (r : Run). r.shift) (λ (t : Turn S). t.shift) refl (λ t r. refl) free f s

  no_steps : ((s : S) → (turn s).steps ≡ 0) → (run more turn f s).steps ≤ 0
  no_steps free = never more turn (λ (r : Run). r.steps) (λ (t : Turn S). t.steps) refl (λ t r. refl) free f s

hybrid_free : (P T : List ℕ) (a : ℕ) → (hybrid_turn P T a).shift ≡ 0
hybrid_free P T a = bool_cases (last_meets P T a) (λ y. ap (λ (t : Turn ℕ). t.shift) (turn_yes P T a y)) (λ n. ap (λ (t : Turn ℕ). t.shift) (turn_no P T a n))

-- no count of r exceeds that of s
pub record Within (r s : Run) : Type 0 where
  pub scan : r.scan ≤ s.scan
  pub shift : r.shift ≤ s.shift
  pub steps : r.steps ≤ s.steps

abbrev counting : ℕ → ℕ → ℕ → Run
counting scan shift steps = record { found = []; scan = scan; shift = shift; steps = steps }

-- the largest counts for a pattern of M letters and a text of N
unfoldable pub most_of : Engine → ℕ → ℕ → Run
most_of Brute M N = counting (M * (N + 1)) 0 0
most_of Kmp M N = counting (2 * N) (N * M) 0
most_of Bm M N = counting (M * (N + 1)) (N * M) 0
most_of Sunday M N = counting (M * (N + 1)) 0 0
most_of ShiftAnd M N = counting 0 0 N
most_of Hybrid M N = counting (N + 1) 0 N

pub counts_within : {M N : ℕ} {P T : List ℕ} → Sized M N P T → (e : Engine) → Within (run_of e P T) (most_of e M N)
unfolding most_of brute_run brute_turn kmp_run kmp_turn bm_run bm_turn sunday_run sunday_turn hybrid_run
counts_within s Brute = record { scan = brute_small s; shift = no_shifts _ _ _ _ (λ i. refl); steps = no_steps _ _ _ _ (λ i. refl) }
counts_within s Kmp = record { scan = kmp_scan_small s; shift = kmp_shift_small s; steps = no_steps _ _ _ _ (λ i. refl) }
counts_within s Bm = record { scan = bm_scan_small s; shift = bm_shift_small s; steps = no_steps _ _ _ _ (λ i. refl) }
counts_within s Sunday = record { scan = sunday_small s; shift = no_shifts _ _ _ _ (λ i. refl); steps = no_steps _ _ _ _ (λ i. refl) }
counts_within {M} {N} {P} {T} s ShiftAnd =
    let some = s.pattern.some in
    let small = s.small in
    record { scan = omega (arith, shiftand_scan P T some); shift = omega (arith, shiftand_shift P T some); steps = omega (arith, shiftand_small P T) }
counts_within {M} {N} {P} {T} s Hybrid =
    let some = s.pattern.some in
    let small = s.small in
    record { scan = omega (arith, hybrid_scan P T some); shift = no_shifts _ _ _ _ (hybrid_free P T); steps = omega (arith, hybrid_steps P T some) }
