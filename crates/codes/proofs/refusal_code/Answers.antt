-- `codes::refusal_code` meets its contract: the number is the kind's. Assumes nothing.
use mathlib.Core.Path.{ap, ◌∙◌}
use Prim.Native.Nat.{ℕ, ◌+◌, ◌*◌, ◌^◌, min}
use lib.IntN.{pos, neg_ℤ}
use Rattle.codes.specs.Codes.{refused_code}
use Rattle.codes.proofs.SignedLaws.{read_back}
use Rattle.codes.proofs.refusal_code.Goals as goal

pub returns : goal.returns
unfolding refused_code
returns c = read_back _ c.placed_code.type_inv ∙ c.placed_code.ensures ∙ ap (λ (n : ℕ). neg_ℤ (pos (n + 256 * min c.args.r.place (2 ^ 48)))) c.from.ensures
