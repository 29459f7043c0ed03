-- `word::word_step` meets its contract: what falls off the top would not be kept. Assumes nothing.
use mir.Syntax.{w64}
use mir.Val.{bits}
use Rattle.word.proofs.WordLaws.{in_width}
use Rattle.word.proofs.word_step.Goals as goal

pub returns : goal.returns
returns c = in_width (bits w64) c.args.d c.args.mask c.ranges.mask.fits
