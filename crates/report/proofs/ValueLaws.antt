-- The report of what the engines counted and listed. Assumes nothing.
use Prim.Native.Nat.{ℕ, ◌≤◌}
use mathlib.Core.Path.{◌≡◌, refl, ap, ap₂, ◌∙◌}
use mathlib.Core.List.{List, []}
use native.Mathlib.Omega.{arith}
use lib.ListN.{length, get_or, take}
use Rattle.hits.specs.Hits.{hits}
use Rattle.hits.specs.Turns.{idle}
use Rattle.hits.specs.Counts.{work_of}
use Rattle.hits.specs.declared.work.Work.{Work}
use Rattle.lent.specs.Over.{over}
use Rattle.lent.proofs.OverLaws.{length_over, take_over}
use Rattle.reportbytes.specs.Values.{values_in}
use Rattle.reportbytes.specs.Bytes.{counts, engine_line, engine_lines, bytes_of}
use Rattle.report.specs.Values.{values_of, works_of}

-- the report of what the engines counted and listed is the report of the values
module _ (P T : List ℕ) where
  same : bytes_of (values_in (works_of P T) (hits P T)) ≡ bytes_of (values_of P T)
  unfolding bytes_of engine_lines engine_line counts values_of
  same = refl

  pub bytes_same : (works : List Work) (list d : List ℕ) → works ≡ works_of P T → list ≡ over (hits P T) d → length (hits P T) ≤ length list
      → bytes_of (values_in works (take (get_or works 0 (work_of [] idle)).total list)) ≡ bytes_of (values_of P T)
  bytes_same works list d ew el h =
      ap₂ (λ (x : List Work) (l : List ℕ). bytes_of (values_in x (take (get_or x 0 (work_of [] idle)).total l))) ew el
      ∙ ap (λ (xs : List ℕ). bytes_of (values_in (works_of P T) xs)) (take_over (hits P T) d (omega (arith, ap length el, length_over (hits P T) d)))
      ∙ same
