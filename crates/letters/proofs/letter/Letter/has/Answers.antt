-- `Letter::has` meets its contract: a shift brings the digit down; above the width there is none. Assumes nothing.
use borrow.Author.Rules.{rules}
use mathlib.Core.Path.{sym, ap}
use Prim.Native.Nat.{ℕ, ◌^◌, ◌<◌}
use lib.Dec.{eqb}
use Rattle.letters.specs.Letters.{member}
use Rattle.letters.proofs.DigitLaws.{digit_pow, digit_above}
use Rattle.letters.proofs.LetterLaws.{no_member}
use Rattle.letters.proofs.letter.Letter.has.Goals as goal

pub returns-then-b-lt-MAX_K : goal.returns-then-b-lt-MAX_K
unfolding member
returns-then-b-lt-MAX_K c = ap (λ (d : ℕ). eqb d 1) (sym (digit_pow c.args.b c.args.self.bits))

pub returns : goal.returns
returns c = let a = c.args in
    let w : a.self.bits < 2 ^ 32 = search rules in
    sym (no_member a.b a.self.bits (digit_above _ a.b a.self.bits w c.if-b-lt-MAX_K.false))
