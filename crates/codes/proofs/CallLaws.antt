-- What answers the promise of a search called from C, for any engine. Assumes nothing.
use mathlib.Core.Path.{◌≡◌, refl, ap, ◌∙◌}
use mathlib.Core.List.{List, [], ◌∷◌}
use Prim.Native.Nat.{ℕ, ◌+◌, ◌≤◌, ◌<◌}
use native.Mathlib.Omega.{arith}
use borrow.Author.Tests.{lt-ltb}
use lib.IntN.{ℤ}
use lib.ListN.{length, set}
use Rattle.promise.specs.Promised.{Promised}
use Rattle.lent.specs.Over.{over}
use Rattle.hits.specs.Hits.{hits}
use Rattle.hits.specs.Turns.{Run}
use Rattle.hits.proofs.HitLaws.{length_hits}
use Rattle.std.specs.Prelude.{Result, Ok, Err}
use Rattle.hits.specs.declared.work.Work.{Work}
use Rattle.inputs.specs.declared.refusal.Refusal.{Refusal}
use Rattle.inputs.specs.Refusals.{Check, verdict, refuse, with_room}
use Rattle.inputs.specs.Answers.{answer_of, list_of, Searched}
use Rattle.inputs.proofs.CheckLaws.{sized, room_passed}
use Rattle.codes.specs.Codes.{code_of}
use Rattle.codes.specs.Called.{Lists, Called, counts_of, total_of, answered_code, answered_counts, short_of}

-- three counts written one by one
pub three_over : (a b c : ℕ) (d : List ℕ) → 2 < length d → set (set (set d 0 a) 1 b) 2 c ≡ over (a ∷ b ∷ c ∷ []) d
unfolding over
three_over a b c [] h = absurd (omega arith)
three_over a b c (x ∷ []) h = absurd (omega arith)
three_over a b c (x ∷ y ∷ []) h = absurd (omega arith)
three_over a b c (x ∷ y ∷ z ∷ d) h = refl

module _ (rule : List ℕ → List ℕ → Run) (K M N k : ℕ) (P T d w : List ℕ) where
  -- the promise, by what the checks say
  abbrev Told : Check → ℤ → List ℕ → List ℕ → Type 0
  Told c r starts counts =
      Promised {B = Lists} (code_of c (length (hits P T))) (record { starts = list_of c (hits P T) d; counts = list_of c (counts_of (rule P T)) w }) r (record { starts = starts; counts = counts })

  -- fewer than three counts are lent
  pub called_short : length w < 3 → (r : ℤ) → r ≡ short_of (verdict K M N k P T) → Called rule K M N k P T d w r d w
  unfolding with_room refuse
  called_short l r e = go (verdict K M N k P T) e
    where
      go : (c : Check) → r ≡ short_of c → Told (with_room 3 (length w) c) r d w
      go (Err q) e = record { answers = e; leaves = refl }
      go (Ok tt) e = rw (lt-ltb (length w) 3 l) (record { answers = e; leaves = refl })

  -- the search was made
  pub called_full : 2 < length w → (a : Result Work Refusal) (starts counts : List ℕ) (r : ℤ) → Searched rule K M N k P T d a starts → r ≡ answered_code a → counts ≡ answered_counts a w
      → Called rule K M N k P T d w r starts counts
  called_full l a starts counts r p er ec =
      rw (room_passed 3 (length w) (verdict K M N k P T) (omega arith))
      (go (verdict K M N k P T) (er ∙ ap answered_code p.answers) p.leaves (ec ∙ ap (λ (x : Result Work Refusal). answered_counts x w) p.answers))
    where
      go : (c : Check) → r ≡ answered_code (answer_of c (hits P T) (rule P T)) → starts ≡ list_of c (hits P T) d → counts ≡ answered_counts (answer_of c (hits P T) (rule P T)) w
          → Told c r starts counts
      go (Err q) e f g = record { answers = e; leaves = rw (f, g) }
      go (Ok tt) e f g = record { answers = e; leaves = rw (f, g) }

-- a total is small
pub called_total : (rule : List ℕ → List ℕ → Run) (K M N k : ℕ) (P T d : List ℕ) (a : Result Work Refusal) (starts : List ℕ) → Searched rule K M N k P T d a starts → total_of a ≤ N + 1
called_total rule K M N k P T d a starts p = rw p.answers (go (verdict K M N k P T) (λ e. (sized K M N k P T e).small))
  where
    go : (c : Check) → (c ≡ Ok tt → length T ≤ N) → total_of (answer_of c (hits P T) (rule P T)) ≤ N + 1
    go (Err q) f = omega arith
    go (Ok tt) f = omega (arith, f refl, length_hits P T)
