-- `products::convert::convert` meets its contract: the sizes decide, or the elements. Assumes nothing.
use mathlib.Core.Path.{sym, ◌∙◌}
use lib.ListN.{length-map}
use Rattle.products.proofs.CheckLaws.{sizes_pass, accepted}
use Rattle.products.proofs.convert.convert.Goals as goal

pub write-requires : goal.write-requires
write-requires g c =
    let a = accepted _ _ _ c.args.k _ (g.C.Conversion.wrong c.args.k) c.args.elements.now _ (sizes_pass _ _ _ _ _ _ _ _ (sym c.check_sizes.ensures ∙ c.in_ok-check_sizes.was) ∙ sym (rw (c.refused.ensures, c.first_wrong-place.ensures) at c.check_elements.ensures) ∙ c.in_ok-check_elements.was) in
    (a.roomy, (c.args.k, a.sizes.fits, a.right))

pub returns : goal.returns
returns g c =
    rw (sizes_pass _ _ _ _ _ _ _ _ (sym c.check_sizes.ensures ∙ c.in_ok-check_sizes.was) ∙ sym (rw (c.refused.ensures, c.first_wrong-place.ensures) at c.check_elements.ensures) ∙ c.in_ok-check_elements.was)
    (record { answers = simp length-map; leaves = c.write.ensures })
