-- `products::checks::first_other` meets its contract: what `position` finds is the first. Assumes nothing.
use mathlib.Core.Path.{◌≡◌, ap, ◌∙◌}
use lib.ListN.{length}
use Rattle.std.specs.List.{position}
use Rattle.std.specs.Option.{unwrap_or}
use Rattle.letters.proofs.FirstLaws.{found_first}
use Rattle.products.specs.Primes.{is_product, other}
use Rattle.products.proofs.checks.first_other.Goals as goal

pub returns : goal.returns
unfolding other is_product
returns c = let a = c.args in
    let found : c.other_at.result ≡ position (other a.k) a.values.now = rw c.first_product-full.ensures at c.other_at.ensures in
    c.unwrap_or.ensures ∙ ap (λ o. unwrap_or o (length a.values.now)) found ∙ found_first (other a.k) a.values.now
