use lib.ListN.{length}
use Rattle.pattern.proofs.TableLaws.{Built}
use Rattle.pattern.proofs.tables.least_shifts.Given as goal

abbrev pub invariant-loop-h : goal.invariant-loop-h
invariant-loop-h l = Built l.far (length l.initial.out) l.m l.out l.s l.h
