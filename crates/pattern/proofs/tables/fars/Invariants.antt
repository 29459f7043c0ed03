use lib.ListN.{length}
use Rattle.pattern.proofs.TableLaws.{Told}
use Rattle.pattern.proofs.tables.fars.Given as goal

abbrev pub invariant-loop-s : goal.invariant-loop-s
invariant-loop-s g l = Told (length l.initial.all) (λ h r. goal.F-post g l.far h r) l.all l.s
