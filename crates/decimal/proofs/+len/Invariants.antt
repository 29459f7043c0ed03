use Rattle.decimal.proofs.+len.Given as goal

abbrev pub decreases-len : goal.decreases-len
decreases-len l = l.n
