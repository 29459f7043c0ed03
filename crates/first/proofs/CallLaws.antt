-- What answers the promise of the first hit called from C. Assumes nothing.
use mathlib.Core.Path.{◌≡◌, refl, ap, ◌∙◌}
use mathlib.Core.List.{List}
use Prim.Native.Nat.{ℕ, ◌<◌}
use native.Mathlib.Omega.{arith}
use borrow.Author.Tests.{lt-ltb}
use lib.IntN.{ℤ}
use lib.ListN.{length}
use Rattle.promise.specs.Promised.{Promised}
use Rattle.std.specs.Prelude.{Result, Ok, Err}
use Rattle.inputs.specs.declared.refusal.Refusal.{Refusal}
use Rattle.inputs.specs.Refusals.{Check, verdict, refuse, with_room}
use Rattle.inputs.proofs.CheckLaws.{room_passed}
use Rattle.codes.specs.Called.{short_of}
use Rattle.first.specs.First.{first_run, first_of, Sought}
use Rattle.first.specs.Called.{first_code, found_left, FirstCalled}
use Rattle.first.specs.declared.First.{First}

module _ (K M N k : ℕ) (P T d : List ℕ) where
  -- the promise, by what the checks say
  abbrev Told : Check → ℤ → List ℕ → Type 0
  Told c r left = Promised (first_code (first_of c (first_run P T))) (found_left (first_of c (first_run P T)) d) r left

  -- fewer than two numbers are lent
  pub first_short : length d < 2 → (r : ℤ) → r ≡ short_of (verdict K M N k P T) → FirstCalled K M N k P T d r d
  unfolding with_room refuse
  first_short l r e = go (verdict K M N k P T) e
    where
      go : (c : Check) → r ≡ short_of c → Told (with_room 2 (length d) c) r d
      go (Err q) e = record { answers = e; leaves = refl }
      go (Ok tt) e = rw (lt-ltb (length d) 2 l) (record { answers = e; leaves = refl })

  -- the search was made
  pub first_full : 1 < length d → (a : Result First Refusal) (left : List ℕ) (r : ℤ) → Sought K M N k P T a → r ≡ first_code a → left ≡ found_left a d → FirstCalled K M N k P T d r left
  first_full l a left r p er el =
      rw (room_passed 2 (length d) (verdict K M N k P T) (omega arith))
      (record { answers = er ∙ ap first_code p.answers; leaves = el ∙ ap (λ (x : Result First Refusal). found_left x d) p.answers })
