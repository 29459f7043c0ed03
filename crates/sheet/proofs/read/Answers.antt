-- `sheet::read` meets its contract: what was planned decides the case, and is then written. Assumes nothing.
use native.Mathlib.Omega.{arith}
use mathlib.Core.Path.{◌≡◌, sym, ◌∙◌}
use mathlib.Core.List.{List}
use Prim.Native.Nat.{ℕ}
use borrow.Author.Rules.{rules}
use Rattle.std.specs.Prelude.{Err}
use Rattle.lent.proofs.OverLaws.{sets_over}
use Rattle.sheet.specs.Reader.{Strings}
use Rattle.sheet.proofs.PromiseLaws.{lines_found, not_read, read_whole}
use Rattle.sheet.proofs.read.Goals as goal

-- the lent lists
abbrev lists : List ℕ → List ℕ → List ℕ → Strings
lists alphabet pattern text = record { alphabet = alphabet; pattern = pattern; text = text }

pub returns-in_err-plan : goal.returns-in_err-plan
returns-in_err-plan c =
    let r : c.from_residual.result ≡ Err c.in_err-plan.field-0.0 = search rules in
    rw r (record { promise = not_read _ _ _ _ _ _ _ (sym c.in_err-plan.was ∙ c.plan.ensures) })

pub overflow_add-end : goal.overflow_add-end
overflow_add-end c = omega (arith, (lines_found _ _ _ _ _ (lists c.args.alphabet.now c.args.pattern.now c.args.text.now) _ (sym c.in_ok-plan.was ∙ c.plan.ensures)).alphabet.within)

pub slice_bounds-letters-end : goal.slice_bounds-letters-end
slice_bounds-letters-end c = (lines_found _ _ _ _ _ (lists c.args.alphabet.now c.args.pattern.now c.args.text.now) _ (sym c.in_ok-plan.was ∙ c.plan.ensures)).alphabet.within

pub of-notation-requires : goal.of-notation-requires
of-notation-requires c = (lines_found _ _ _ _ _ (lists c.args.alphabet.now c.args.pattern.now c.args.text.now) _ (sym c.in_ok-plan.was ∙ c.plan.ensures)).alphabet.few

pub put_bytes-requires : goal.put_bytes-requires
put_bytes-requires c = omega (arith, (lines_found _ _ _ _ _ (lists c.args.alphabet.now c.args.pattern.now c.args.text.now) _ (sym c.in_ok-plan.was ∙ c.plan.ensures)).alphabet.fits)

pub put_letters-requires : goal.put_letters-requires
put_letters-requires c =
    let f = lines_found _ _ _ _ _ (lists c.args.alphabet.now c.args.pattern.now c.args.text.now) _ (sym c.in_ok-plan.was ∙ c.plan.ensures) in
    rw c.of-notation.ensures (record { within = f.pattern.within; room = f.pattern.fits })

pub put_letters-requires-2 : goal.put_letters-requires-2
put_letters-requires-2 c =
    let f = lines_found _ _ _ _ _ (lists c.args.alphabet.now c.args.pattern.now c.args.text.now) _ (sym c.in_ok-plan.was ∙ c.plan.ensures) in
    rw c.of-notation.ensures (record { within = f.text.within; room = f.text.fits })

pub sizes_of-requires : goal.sizes_of-requires
sizes_of-requires c =
    let f = (lines_found _ _ _ _ _ (lists c.args.alphabet.now c.args.pattern.now c.args.text.now) _ (sym c.in_ok-plan.was ∙ c.plan.ensures)).alphabet in
    omega (arith, f.size, f.few)

pub returns : goal.returns
returns c =
    let f = lines_found _ _ _ _ _ (lists c.args.alphabet.now c.args.pattern.now c.args.text.now) _ (sym c.in_ok-plan.was ∙ c.plan.ensures) in
    let p = rw c.of-notation.ensures at c.put_letters.ensures in
    let t = rw c.of-notation.ensures at c.put_letters-2.ensures in
    rw c.sizes_of.ensures (record { promise = read_whole _ _ _ _ _ _ _ f _ _ _ (c.put_bytes.ensures.1 ∙ sets_over _ _) p t })
