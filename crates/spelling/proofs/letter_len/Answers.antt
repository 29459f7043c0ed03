-- `spelling::letter_len` meets its contract. Assumes nothing.
use Prim.Native.Nat.{◌≤◌}
use mathlib.Core.Path.{◌≡◌, sym, ap}
use mathlib.Core.List.{[], ◌∷◌}
use native.Mathlib.Omega.{arith}
use lib.Count.{ones}
use lib.ListN.{length, length-append}
use Rattle.notation.specs.Spelling.{pick}
use Rattle.notation.proofs.PickLaws.{length_pick}
use Rattle.spelling.proofs.LineLaws.{ones_pick, ones_few, ones_all, ones_part}
use Rattle.spelling.proofs.letter_len.Goals as goal
use Rattle.spelling.proofs.letter_len.Goals.{then-ones-le1-via-then-ones-le1, then-ones-le1-via-else-ones-le1+then-ones-alphabet}

pub overflow_cast-ones : goal.overflow_cast-ones
overflow_cast-ones c =
    let count : ones c.args.c ≡ length (pick c.args.alphabet.now c.args.c) = ones_pick _ _ c.requires.1 in
    let few : ones c.args.c ≤ length c.args.alphabet.now = omega (arith, count, length_pick c.args.alphabet.now c.args.c) in
    omega (arith, few)

pub returns-then-ones-le1 : goal.returns-then-ones-le1
returns-then-ones-le1 c =
    let A = c.args.alphabet.now in
    elim c.then-ones-le1.branch [
      | then-ones-le1-via-then-ones-le1 w ↦ sym (ones_few A c.args.c c.requires.1 w.if-ones-le1.true)
      | then-ones-le1-via-else-ones-le1+then-ones-alphabet w ↦ sym (ap length (ones_all A c.args.c c.requires.1 (omega (arith, w.if-ones-le1.false)) w.if-ones-alphabet.true))
    ]

pub overflow_add-result : goal.overflow_add-result
overflow_add-result c =
    let count : ones c.args.c ≡ length (pick c.args.alphabet.now c.args.c) = ones_pick _ _ c.requires.1 in
    let few : ones c.args.c ≤ length c.args.alphabet.now = omega (arith, count, length_pick c.args.alphabet.now c.args.c) in
    omega (arith, few)

pub returns : goal.returns
returns c =
    let count : ones c.args.c ≡ length (pick c.args.alphabet.now c.args.c) = ones_pick _ _ c.requires.1 in
    let A = c.args.alphabet.now in
    omega (arith, count, ap length (ones_part A c.args.c c.requires.1 (omega (arith, c.if-ones-le1.false)) c.if-ones-alphabet.false), length-append (pick A c.args.c) (93 ∷ []))
