-- The line that says what failed.
use Rattle.std.specs.Prelude.{ℕ, List, Option, [], ◌∷◌, ◌++◌}
use Rattle.std.specs.Io.KnownBytes.{Appends}

-- what failed, a colon, a space, some text and a line feed were written, and no more
abbrev pub TellsLine : Option (List ℕ) → Option (List ℕ) → List ℕ → Type 0
TellsLine old new what = (why : List ℕ) × Appends old new (what ++ (58 ∷ 32 ∷ (why ++ (10 ∷ []))))
