-- The front of a list that was read or written, where the bytes are known.
use Rattle.std.specs.Prelude.{ℕ, ◌≤◌, List, Option, length, take}
use Rattle.std.specs.Io.KnownBytes.{Appends, Consumes}

-- so many bytes as now stand in front of the list were taken from the reader, and no more
abbrev pub TookFront : Option (List ℕ) → Option (List ℕ) → List ℕ → Type 0
TookFront old new list = (n : ℕ) × (n ≤ length list) × Consumes old new (take n list)

-- a front of the list was written, and no more
abbrev pub PutFront : Option (List ℕ) → Option (List ℕ) → List ℕ → Type 0
PutFront old new list = (n : ℕ) × (n ≤ length list) × Appends old new (take n list)
