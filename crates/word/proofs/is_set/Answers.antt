-- `word::is_set` meets its contract: the shift brings the digit down. Assumes nothing.
use mathlib.Core.Path.{sym, ap}
use Prim.Native.Nat.{ℕ}
use lib.Dec.{eqb}
use Rattle.letters.proofs.DigitLaws.{digit_pow}
use Rattle.word.specs.Word.{is_set}
use Rattle.word.proofs.is_set.Goals as goal

pub returns : goal.returns
unfolding is_set
returns c = ap (λ (d : ℕ). eqb d 1) (sym (digit_pow c.args.j c.args.d))
