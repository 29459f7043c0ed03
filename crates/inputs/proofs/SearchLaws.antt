-- What answers a search's promise, for any engine. Assumes nothing.
use mathlib.Core.Path.{◌≡◌, ap}
use mathlib.Core.List.{List}
use Prim.Native.Nat.{ℕ, ◌≤◌}
use native.Mathlib.Omega.{arith}
use Rattle.hits.specs.Hits.{hits}
use Rattle.lent.specs.Over.{over}
use Rattle.hits.specs.Turns.{Run}
use Rattle.hits.specs.Counts.{work_of}
use Rattle.hits.specs.declared.work.Work.{Work}
use Rattle.inputs.specs.declared.refusal.Refusal.{Refusal}
use Rattle.std.specs.Prelude.{Result, Ok, Err}
use Rattle.inputs.specs.Refusals.{Check, verdict}
use Rattle.inputs.specs.Answers.{Searched, answer_of, scan_of, shift_of}

module _ (rule : List ℕ → List ℕ → Run) (K M N k : ℕ) (P T d : List ℕ) where
  -- a search that is not refused answers what the run counted, with the hits over the list's front
  pub search_found : (w : Work) (list : List ℕ) → verdict K M N k P T ≡ Ok tt → w ≡ work_of (hits P T) (rule P T) → list ≡ over (hits P T) d
      → Searched rule K M N k P T d (Ok w) list
  search_found w list e ew el = rw e (record { answers = ap Ok ew; leaves = el })

  -- what is answered counts no more than the run
  module _ (r : Result Work Refusal) (left : List ℕ) (p : Searched rule K M N k P T d r left) (b : ℕ) where
    pub scan_most : (rule P T).scan ≤ b → scan_of r ≤ b
    scan_most l = rw p.answers (go (verdict K M N k P T))
      where
        go : (c : Check) → scan_of (answer_of c (hits P T) (rule P T)) ≤ b
        go (Err q) = omega arith
        go (Ok tt) = l

    pub shift_most : (rule P T).shift ≤ b → shift_of r ≤ b
    shift_most l = rw p.answers (go (verdict K M N k P T))
      where
        go : (c : Check) → shift_of (answer_of c (hits P T) (rule P T)) ≤ b
        go (Err q) = omega arith
        go (Ok tt) = l
