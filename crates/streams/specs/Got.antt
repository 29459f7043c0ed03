-- What reading to the end comes to.
use Rattle.std.specs.Prelude.{ℕ, ◌<◌, List, Option, Result, Ok, Err, length, take}
use Rattle.std.specs.Io.KnownBytes.{Consumes, IsAtEnd}
use Rattle.streams.specs.Front.{TookFront}

-- how many bytes were read; none where the reading failed
abbrev pub got_of : {E : Type 0} → Result ℕ E → ℕ
got_of (Ok n) = n
got_of (Err e) = 0

-- the n bytes that the reader gave stand in front of the list, and it has no more where the list has room left; where the reading failed, those given until then
abbrev pub Took : {E : Type 0} → Option (List ℕ) → Option (List ℕ) → Result ℕ E → List ℕ → Type 0
Took old new (Ok n) list = Consumes old new (take n list) × (n < length list → IsAtEnd new)
Took old new (Err e) list = TookFront old new list
