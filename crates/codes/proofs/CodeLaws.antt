-- From what a library call promises to what its call from C promises. Assumes nothing.
use mathlib.Core.Path.{◌≡◌, refl, ap, ◌∙◌}
use mathlib.Core.List.{List}
use Prim.Native.Nat.{ℕ, ◌+◌, ◌*◌, ◌/◌, ◌%◌, ◌≤◌, ◌<◌}
use native.Mathlib.Omega.{arith}
use lib.IntN.{ℤ}
use lib.ListN.{length}
use Rattle.inputs.specs.Answers.{written_of, WrittenInto}
use Rattle.std.specs.Prelude.{Result, Ok, Err}
use Rattle.inputs.specs.declared.refusal.Refusal.{Refusal}
use Rattle.inputs.specs.Refusals.{Check}
use Rattle.codes.specs.Codes.{code_of, numbered_of, wrote_of, written_code, written_number, WrittenCalled, WrittenNumbered}

module _ (c : Check) (ys d : List ℕ) (w : Result ℕ Refusal) (left : List ℕ) (p : WrittenInto c ys d w left) where
  -- the shell of a call that writes
  pub written_called : (r : ℤ) → r ≡ written_code w → WrittenCalled c ys d r left
  written_called r e = record { answers = e ∙ ap written_code p.answers ∙ same c; leaves = p.leaves }
    where
      same : (c : Check) → written_code (written_of c ys) ≡ code_of c (length ys)
      same (Err q) = refl
      same (Ok tt) = refl

  -- the same for a call that tells no place
  pub written_numbered : (r : ℤ) → r ≡ written_number w → WrittenNumbered c ys d r left
  written_numbered r e = record { answers = e ∙ ap written_number p.answers ∙ same c; leaves = p.leaves }
    where
      same : (c : Check) → written_number (written_of c ys) ≡ numbered_of c (length ys)
      same (Err q) = refl
      same (Ok tt) = refl

  -- what was written is no more than what is ever written
  pub wrote_most : (b : ℕ) → (c ≡ Ok tt → length ys ≤ b) → wrote_of w ≤ b
  wrote_most b h = rw p.answers (go c h)
    where
      go : (c : Check) → (c ≡ Ok tt → length ys ≤ b) → wrote_of (written_of c ys) ≤ b
      go (Err q) h = omega arith
      go (Ok tt) h = h refl

-- number and place taken apart again, as the header's macros do it
module _ (n p : ℕ) (h : n < 256) where
  pub number_back : (n + 256 * p) % 256 ≡ n
  number_back = omega arith

  pub place_back : (n + 256 * p) / 256 ≡ p
  place_back = omega arith
