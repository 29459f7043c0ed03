-- What one write takes from the rest is what the writer was given.
use Rattle.std.proofs.Common.{◌+◌, ◌++◌, arith, length, take, drop, sym, ap, ◌∙◌, subst, length-drop, take-add, drop-drop}
use Rattle.std.proofs.lemmas.List.{take_rest}
use Rattle.std.specs.Io.KnownBytes.{Appends}
use Rattle.std.proofs.KnownBytes.{Appends-trans}
use Rattle.streams.proofs.write_whole.Goals as goal

pub loop-rest-preserved-in-Ok : goal.loop-rest-preserved-in-Ok
loop-rest-preserved-in-Ok g c =
    let (n, within, split, put) = c.loop-rest.invariant in
    let more = c.in-Ok.n in
    let all = c.args.list.now in
    let rest_is = take_rest c.loop-rest.rest.now more ∙ ap (drop more) split ∙ drop-drop more n all in
    let front_is = ap (λ l. take n all ++ take more l) split ∙ sym (take-add n more all) in
    (n + more, omega (arith, length-drop n all, ap length split, c.in-Ok.ensures.bound), rest_is, subst (Appends _ _) front_is (Appends-trans _ _ _ _ _ put c.in-Ok.ensures.bytes))
