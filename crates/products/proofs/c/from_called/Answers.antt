-- `products::c::from_called` meets its contract: a shell over one call. Assumes nothing.
use mathlib.Core.Path.{◌∙◌}
use mathlib.Core.List.{map}
use native.Mathlib.Omega.{arith}
use Rattle.codes.proofs.SignedLaws.{read_back}
use Rattle.codes.proofs.CodeLaws.{written_called, wrote_most}
use Rattle.products.specs.Primes.{letter_of}
use Rattle.products.specs.Conversions.{from_verdict}
use Rattle.products.proofs.CheckLaws.{short_made}
use Rattle.products.proofs.c.from_called.Goals as goal

pub written_code-requires : goal.written_code-requires
unfolding from_verdict
written_code-requires c =
    let l = wrote_most _ _ _ _ _ c.from_products.ensures _ (short_made _ _ _ _ _ _ _ _ _) in
    omega arith

pub returns : goal.returns
returns c =
    let a = c.args in
    written_called (from_verdict _ _ _ _ _ _) (map letter_of a.products.now) a.letters.now _ _ c.from_products.ensures _
    (read_back _ c.written_code.type_inv ∙ c.written_code.ensures)
