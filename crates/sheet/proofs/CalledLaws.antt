-- What answers the promise of reading a sheet from C. Assumes nothing.
use mathlib.Core.Path.{◌≡◌, refl, ap, ◌∙◌}
use mathlib.Core.List.{List}
use Prim.Native.Nat.{ℕ, ◌≤◌, ◌<◌}
use lib.IntN.{ℤ}
use lib.ListN.{length}
use Rattle.promise.specs.Promised.{Promised}
use Rattle.inputs.specs.Refusals.{refuse, with_room}
use Rattle.inputs.proofs.CheckLaws.{room_passed, room_short}
use Rattle.codes.specs.Codes.{code_of}
use Rattle.sheet.specs.Reader.{Strings, reading}
use Rattle.sheet.specs.Answers.{taken_of, check_of, left_of, ReadInto}
use Rattle.sheet.specs.Called.{taken_check, sizes_over, Lent, kept_of, ReadCalled}
use Rattle.std.specs.Prelude.{Result, Ok, Err}
use Rattle.inputs.specs.declared.refusal.Refusal.{Refusal}
use Rattle.sheet.specs.declared.Sizes.{Sizes}

module _ (B K M N : ℕ) (s : List ℕ) (d : Strings) (z : List ℕ) where
  -- fewer than three sizes are lent
  pub read_short : length z < 3 → (a : Result Sizes Refusal) (r : ℤ) → a ≡ taken_of (reading B K M N d s) → r ≡ code_of (with_room 1 0 (taken_check a)) 0 → ReadCalled B K M N s d z r d z
  unfolding with_room refuse
  read_short l a r ea er = go (reading B K M N d s) (er ∙ ap (λ (x : Result Sizes Refusal). code_of (with_room 1 0 (taken_check x)) 0) ea)
    where
      go : (o : Result Strings Refusal) → r ≡ code_of (with_room 1 0 (taken_check (taken_of o))) 0
          → Promised {B = Lent} (code_of (with_room 3 (length z) (check_of o)) 0) (kept_of (with_room 3 (length z) (check_of o)) o d z) r (record { strings = d; sizes = z })
      go (Err q) e = record { answers = e; leaves = refl }
      go (Ok w) e = rw (room_short 3 (length z) (check_of (Ok w)) l refl) (record { answers = e; leaves = refl })

  -- the sheet was read, or refused for another number
  pub read_full : 3 ≤ length z → (a : Result Sizes Refusal) (strings : Strings) (sizes : List ℕ) (r : ℤ) → ReadInto B K M N s d a strings → r ≡ code_of (taken_check a) 0 → sizes ≡ sizes_over a z
      → ReadCalled B K M N s d z r strings sizes
  read_full l a strings sizes r p er ez =
      rw (room_passed 3 (length z) (check_of (reading B K M N d s)) l) (go (reading B K M N d s) p.answers p.leaves)
    where
      go : (o : Result Strings Refusal) → a ≡ taken_of o → strings ≡ left_of o d → Promised {B = Lent} (code_of (check_of o) 0) (kept_of (check_of o) o d z) r (record { strings = strings; sizes = sizes })
      go (Err q) e f = record { answers = er ∙ ap (λ (t : Result Sizes Refusal). code_of (taken_check t) 0) e; leaves = rw (f, ez, e) }
      go (Ok w) e f = record { answers = er ∙ ap (λ (t : Result Sizes Refusal). code_of (taken_check t) 0) e; leaves = rw (f, ez, e) }
