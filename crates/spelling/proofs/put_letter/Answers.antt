-- `spelling::put_letter` meets its contract: the number of one bits says which spelling; after each part, what is left to write. Assumes nothing.
use Prim.Native.Nat.{ℕ, ◌<◌}
use mathlib.Core.Path.{◌≡◌}
use mathlib.Core.List.{List, [], ◌∷◌, ◌++◌}
use native.Mathlib.Omega.{arith}
use lib.Count.{ones}
use Rattle.lent.proofs.StoreLaws.{Storing, so_none, so_same, so_front, so_next, so_back, so_last}
use Rattle.notation.specs.Spelling.{pick, spell}
use Rattle.notation.proofs.PickLaws.{length_pick}
use Rattle.spelling.proofs.LineLaws.{ones_pick, ones_none, ones_one, ones_all, ones_part}
use Rattle.spelling.proofs.put_letter.Goals as goal

-- `left` of the spelling is left to write
abbrev Stage : (alphabet : List ℕ) (c : ℕ) (out : List ℕ) (at : ℕ) (left list : List ℕ) (e : ℕ) → Type 0
Stage alphabet c out at left list e = Storing out at (spell alphabet c) left list e

pub overflow_cast-n : goal.overflow_cast-n
overflow_cast-n c = omega (arith, ones_pick c.args.alphabet.now c.args.c c.requires.1, length_pick c.args.alphabet.now c.args.c, c.requires.0)

pub put_byte-requires : goal.put_byte-requires
put_byte-requires c =
    let none : spell c.args.alphabet.now c.args.c ≡ 124 ∷ [] = ones_none _ _ c.requires.1 c.if-n-eq0.true in
    let h = rw none at c.requires.2 in
    omega arith

pub returns-then-n-eq0 : goal.returns-then-n-eq0
returns-then-n-eq0 c =
    let none : spell c.args.alphabet.now c.args.c ≡ 124 ∷ [] = ones_none _ _ c.requires.1 c.if-n-eq0.true in
    rw none c.put_byte.ensures

pub put_members-requires : goal.put_members-requires
put_members-requires c =
    let one : spell c.args.alphabet.now c.args.c ≡ pick c.args.alphabet.now c.args.c = ones_one _ _ c.requires.1 c.if-n-eq1.true in
    (c.requires.0, rw one at c.requires.2)

pub returns-then-n-eq1 : goal.returns-then-n-eq1
returns-then-n-eq1 c =
    let one : spell c.args.alphabet.now c.args.c ≡ pick c.args.alphabet.now c.args.c = ones_one _ _ c.requires.1 c.if-n-eq1.true in
    rw one c.put_members.ensures

pub put_byte-requires-then-n-alphabet : goal.put_byte-requires-then-n-alphabet
put_byte-requires-then-n-alphabet c =
    let two : 1 < ones c.args.c = omega (arith, c.if-n-eq1.false, c.if-n-eq0.false) in
    let all : spell c.args.alphabet.now c.args.c ≡ 42 ∷ [] = ones_all _ _ c.requires.1 two c.if-n-alphabet.true in
    let h = rw all at c.requires.2 in
    omega arith

pub returns-then-n-alphabet : goal.returns-then-n-alphabet
returns-then-n-alphabet c =
    let two : 1 < ones c.args.c = omega (arith, c.if-n-eq1.false, c.if-n-eq0.false) in
    let all : spell c.args.alphabet.now c.args.c ≡ 42 ∷ [] = ones_all _ _ c.requires.1 two c.if-n-alphabet.true in
    rw all c.put_byte-then-n-alphabet.ensures

pub put_byte-a-requires : goal.put_byte-a-requires
put_byte-a-requires c =
    let picked = pick c.args.alphabet.now c.args.c in
    let two : 1 < ones c.args.c = omega (arith, c.if-n-eq1.false, c.if-n-eq0.false) in
    let w0 : Stage c.args.alphabet.now c.args.c c.args.out.now c.args.at ((91 ∷ []) ++ (picked ++ (93 ∷ []))) c.args.out.now c.args.at = so_same _ _ _ _ _ _ (so_none _ _ _) _ (ones_part _ _ c.requires.1 two c.if-n-alphabet.false) in
    let h = so_front (91 ∷ []) _ w0 c.requires.2 in
    omega arith

pub put_members-e-requires : goal.put_members-e-requires
put_members-e-requires c =
    let picked = pick c.args.alphabet.now c.args.c in
    let two : 1 < ones c.args.c = omega (arith, c.if-n-eq1.false, c.if-n-eq0.false) in
    let w0 : Stage c.args.alphabet.now c.args.c c.args.out.now c.args.at ((91 ∷ []) ++ (picked ++ (93 ∷ []))) c.args.out.now c.args.at = so_same _ _ _ _ _ _ (so_none _ _ _) _ (ones_part _ _ c.requires.1 two c.if-n-alphabet.false) in
    let w1 : Stage c.args.alphabet.now c.args.c c.args.out.now c.args.at (picked ++ (93 ∷ [])) c.put_byte-a.new.out c.put_byte-a.result = so_next (91 ∷ []) _ w0 c.put_byte-a.ensures.1 c.put_byte-a.ensures.0 in
    (c.requires.0, so_front picked _ w1 c.requires.2)

pub put_byte-requires-2 : goal.put_byte-requires-2
put_byte-requires-2 c =
    let picked = pick c.args.alphabet.now c.args.c in
    let two : 1 < ones c.args.c = omega (arith, c.if-n-eq1.false, c.if-n-eq0.false) in
    let w0 : Stage c.args.alphabet.now c.args.c c.args.out.now c.args.at ((91 ∷ []) ++ (picked ++ (93 ∷ []))) c.args.out.now c.args.at = so_same _ _ _ _ _ _ (so_none _ _ _) _ (ones_part _ _ c.requires.1 two c.if-n-alphabet.false) in
    let w1 : Stage c.args.alphabet.now c.args.c c.args.out.now c.args.at (picked ++ (93 ∷ [])) c.put_byte-a.new.out c.put_byte-a.result = so_next (91 ∷ []) _ w0 c.put_byte-a.ensures.1 c.put_byte-a.ensures.0 in
    let w2 : Stage c.args.alphabet.now c.args.c c.args.out.now c.args.at (93 ∷ []) c.put_members-e.new.out c.put_members-e.result = so_next picked _ w1 c.put_members-e.ensures.1 c.put_members-e.ensures.0 in
    let h = so_back (93 ∷ []) w2 c.requires.2 in
    omega arith

pub returns : goal.returns
returns c =
    let picked = pick c.args.alphabet.now c.args.c in
    let two : 1 < ones c.args.c = omega (arith, c.if-n-eq1.false, c.if-n-eq0.false) in
    let w0 : Stage c.args.alphabet.now c.args.c c.args.out.now c.args.at ((91 ∷ []) ++ (picked ++ (93 ∷ []))) c.args.out.now c.args.at = so_same _ _ _ _ _ _ (so_none _ _ _) _ (ones_part _ _ c.requires.1 two c.if-n-alphabet.false) in
    let w1 : Stage c.args.alphabet.now c.args.c c.args.out.now c.args.at (picked ++ (93 ∷ [])) c.put_byte-a.new.out c.put_byte-a.result = so_next (91 ∷ []) _ w0 c.put_byte-a.ensures.1 c.put_byte-a.ensures.0 in
    let w2 : Stage c.args.alphabet.now c.args.c c.args.out.now c.args.at (93 ∷ []) c.put_members-e.new.out c.put_members-e.result = so_next picked _ w1 c.put_members-e.ensures.1 c.put_members-e.ensures.0 in
    so_last (93 ∷ []) w2 c.put_byte-2.ensures.1 c.put_byte-2.ensures.0
