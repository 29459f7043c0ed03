-- `products::table::table` meets its contract: the table is what computing each entry by the rule gives. Assumes nothing.
use mathlib.Core.Path.{◌∙◌, sym}
use Rattle.products.specs.Primes.{primes}
use Rattle.products.proofs.SetLaws.{set_product}
use Rattle.products.proofs.PrimeLaws.{by_digits}
use Rattle.products.proofs.TableLaws.{tabulate, entry}
use Rattle.products.proofs.table.table.Goals as goal

pub returns : goal.returns
unfolding tabulate set_product primes
returns c = record { at = λ s h. entry (set_product primes) 512 s h ∙ sym (by_digits s) }
