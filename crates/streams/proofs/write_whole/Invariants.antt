-- What stands before the rest has been written; each pass writes some or has less patience.
use Rattle.std.proofs.Common.{◌≡◌, ℕ, ◌+◌, ◌≤◌, length, take, drop}
use Rattle.std.specs.Io.KnownBytes.{Appends}
use Rattle.streams.proofs.write_whole.Given as goal

abbrev pub invariant-loop-rest : goal.invariant-loop-rest
invariant-loop-rest g l = (n : ℕ) × (n ≤ length l.list) × (l.rest ≡ drop n l.list) × Appends (g.W.Write.contents l.initial.output) (g.W.Write.contents l.output) (take n l.list)

abbrev pub decreases-loop-rest : goal.decreases-loop-rest
decreases-loop-rest g l = length l.rest + l.patience
