-- Word steps until the state is 0 or the text ends (W. F. Smyth, Shu Wang: An Adaptive Hybrid Pattern-Matching Algorithm on Indeterminate Strings, figure 6).
use Rattle.std.specs.Prelude.{ℕ, zero, suc, ◌+◌, ◌-◌, cond, List, [], eqb, length, get_or}
use Rattle.letters.specs.Members.{keep}
use Rattle.word.specs.Word.{stepped, is_set}

-- what such steps come to: the hits found, the position after the last step, the number of steps
pub record Stretch : Type 0 where
  pub found : List ℕ
  pub next : ℕ
  pub steps : ℕ

-- no step more
abbrev pub no_step : ℕ → Stretch
no_step e = record { found = []; next = e; steps = 0 }

-- a step to the position e that leaves the state w, and then the others. The pattern ends here if its last position is set
abbrev pub step_to : List ℕ → ℕ → ℕ → Stretch → Stretch
step_to P e w r = record { found = keep (is_set (length P - 1) w) (e - length P) r.found; next = r.next; steps = r.steps + 1 }

-- the steps from the letter at e on, with the state w and f letters to go
unfoldable pub stretch : List ℕ → List ℕ → ℕ → ℕ → ℕ → Stretch
stretch P T zero e w = no_step e
stretch P T (suc f) e w =
    let next = stepped P (get_or T e 0) w in
    step_to P (e + 1) next (cond (eqb next 0) (no_step (e + 1)) (stretch P T f (e + 1) next))
