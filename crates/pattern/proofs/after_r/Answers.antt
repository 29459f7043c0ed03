-- `after_r` meets its contract: the letter that is found meets c, and none after it does. Assumes nothing.
use native.Mathlib.Omega.{arith}
use Rattle.std.proofs.Common.{rules, sym}
use Rattle.letters.specs.Letters.{meets}
use Rattle.pattern.proofs.LastLaws.{at_r, none_r}
use Rattle.pattern.proofs.after_r.Goals as goal

pub returns-in-Some : goal.returns-in-Some
unfolding meets
returns-in-Some c = let found = at_r c.args.p.now c.args.c c.in-Some.j (search rules) (search rules) (search rules) in omega arith

pub returns-in-None : goal.returns-in-None
unfolding meets
returns-in-None c = sym (none_r c.args.p.now c.args.c (search rules))
