-- Examples by computation: where BM's shift is cut. Assumes nothing.
use mathlib.Core.Path.{◌≡◌, refl}
use mathlib.Core.List.{[], ◌∷◌}
use lib.Count.{ones, ones_in}
use Rattle.letters.specs.Letters.{shared, meets, single}
use Rattle.hits.specs.Scans.{tests, back, back_tests}
use Rattle.shifts.specs.Least.{least}
use Rattle.shifts.specs.Shift.{fit, trial, trials}
use Rattle.hits.specs.Singles.{all_single}
use Rattle.hits.specs.Hits.{met}
use Rattle.pattern.specs.Last.{last_in, after_r}
use Rattle.bm.specs.Bm.{first_shift, first_tests, fail_shift, second_shift, bm_turn}

-- a shift is cut where it would pass the last start by more than one: `ab` in `ab`, a 1, b 2
pub cut : (bm_turn (1 ∷ 2 ∷ []) (1 ∷ 2 ∷ []) 0).next ≡ 1
unfolding ones ones_in shared meets single tests back back_tests least fit trial trials all_single met last_in after_r first_shift first_tests fail_shift second_shift bm_turn
cut = refl
