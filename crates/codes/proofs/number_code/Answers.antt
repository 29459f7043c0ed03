-- `codes::number_code` meets its contract: the number is the kind's. Assumes nothing.
use mathlib.Core.Path.{ap, ◌∙◌}
use Prim.Native.Nat.{ℕ}
use lib.IntN.{pos, neg_ℤ}
use Rattle.codes.specs.Codes.{number_code}
use Rattle.codes.proofs.SignedLaws.{read_back}
use Rattle.codes.proofs.number_code.Goals as goal

pub returns : goal.returns
unfolding number_code
returns c = read_back _ c.unplaced_code.type_inv ∙ c.unplaced_code.ensures ∙ ap (λ (n : ℕ). neg_ℤ (pos n)) c.from.ensures
