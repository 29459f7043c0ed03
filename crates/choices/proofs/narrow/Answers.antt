-- `choices::narrow` meets its contract: the sets of the front are settled, and what lies behind them says nothing. Assumes nothing.
use Rattle.choices.proofs.SettleLaws.{lowest_front}
use Rattle.choices.proofs.narrow.Goals as goal

pub returns : goal.returns
returns c = (c.settle.ensures.0, λ t. lowest_front _ _ _ _ _ c.settle.ensures.1 (c.settle.ensures.2 t))
