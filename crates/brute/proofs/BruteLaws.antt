-- Brute is sound, so its run finds the hits; and it makes at most m tests a start. Assumes nothing.
use mathlib.Core.Path.{◌≡◌, refl, sym, ap, ◌∙◌}
use mathlib.Core.List.{List, []}
use Prim.Native.Nat.{ℕ, suc, ◌+◌, ◌-◌, ◌*◌, ◌≤◌, ◌<◌}
use native.Mathlib.Omega.{arith}
use lib.ListN.{length}
use Rattle.letters.specs.Members.{keep}
use Rattle.letters.specs.Sizes.{Sized}
use Rattle.hits.specs.Hits.{within, hits}
use Rattle.hits.specs.Turns.{Turn, Run, idle}
use Rattle.hits.proofs.HitLaws.{one_from}
use Rattle.hits.proofs.ScanLaws.{scan_hit, tests_le}
use Rattle.hits.proofs.RunLaws.{Sound, finds_all, by_start, per_start, no_start, start_small}
use Rattle.inputs.specs.Starts.{Settling}
use Rattle.inputs.proofs.StartLaws.{passing}
use Rattle.brute.specs.Brute.{brute_turn, brute_run}

module _ (P T : List ℕ) where
  -- each turn settles its own start
  pub settles : Settling P T (brute_turn P T)
  unfolding brute_turn
  settles i l =
      record {
        more = 0;
        moved = refl;
        near = omega arith;
        right = ap (λ b. keep b i []) (scan_hit P T i l) ∙ sym (one_from P T 0 i (λ j u v. absurd (omega arith)));
      }

  unfoldable pub sound : Sound P T (within P T) (brute_turn P T) (suc (length T)) 0
  sound = by_start (passing settles)

  -- the rule's run finds exactly the hits
  pub brute_finds : (brute_run P T).found ≡ hits P T
  unfolding brute_run
  brute_finds = finds_all sound

  -- scan tests: at most m (n - m + 1)
  pub brute_scan : (brute_run P T).scan ≤ length P * (length T + 1 - length P)
  unfolding brute_run brute_turn
  brute_scan = per_start (passing settles) (λ (r : Run). r.scan) (λ (t : Turn ℕ). t.scan) refl (λ t r. refl) (length P) (λ i. tests_le P T i 0 (length P))

  -- and no shift test
  pub brute_shift : (brute_run P T).shift ≤ 0
  unfolding brute_run brute_turn
  brute_shift = omega (arith, per_start (passing settles) (λ (r : Run). r.shift) (λ (t : Turn ℕ). t.shift) refl (λ t r. refl) 0 (λ i. omega arith))

  -- a pattern longer than the text: no turn, and no count
  pub brute_idle : length T < length P → brute_run P T ≡ idle
  unfolding brute_run
  brute_idle l = no_start P T (brute_turn P T) (suc (length T)) l

-- within the limits it fits a word
pub brute_small : {M N : ℕ} {P T : List ℕ} → Sized M N P T → (brute_run P T).scan ≤ M * (N + 1)
brute_small {M} {N} {P} {T} s = start_small s (brute_run P T).scan (brute_scan P T)
