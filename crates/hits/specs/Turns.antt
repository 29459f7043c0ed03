-- An engine, over any state: its turn, its run of turns until there is no more to do, and that run ended after the first turn that finds.
use Rattle.std.specs.Prelude.{ℕ, zero, suc, ◌+◌, Bool, cond, List, [], ◌∷◌, ◌++◌}

-- what one turn does: the hits that it finds, the state after it, and the work that it adds
pub record Turn (S : Type 0) : Type 0 where
  pub found : List ℕ
  pub next : S
  pub scan : ℕ
  pub shift : ℕ
  pub steps : ℕ

-- what a run comes to
pub record Run : Type 0 where
  pub found : List ℕ
  pub scan : ℕ
  pub shift : ℕ
  pub steps : ℕ

abbrev pub idle : Run
idle = record { found = []; scan = 0; shift = 0; steps = 0 }

abbrev pub after : {S : Type 0} → Turn S → Run → Run
after t r =
    record {
      found = t.found ++ r.found;
      scan = t.scan + r.scan;
      shift = t.shift + r.shift;
      steps = t.steps + r.steps;
    }

-- the run from a state: a turn and the run from the next state, as long as there is more to do; at most so many turns
module _ {S : Type 0} (more : S → Bool) (turn : S → Turn S) where
  unfoldable pub run : ℕ → S → Run
  run zero s = idle
  run (suc f) s = cond (more s) (after (turn s) (run f (turn s).next)) idle

-- nothing more where something was found, else this run
abbrev pub unless_found : List ℕ → Run → Run
unless_found [] r = r
unless_found (x ∷ xs) r = idle

-- the same run, ended after the first turn that finds
module _ {S : Type 0} (more : S → Bool) (turn : S → Turn S) where
  unfoldable pub run_first : ℕ → S → Run
  run_first zero s = idle
  run_first (suc f) s = cond (more s) (after (turn s) (unless_found (turn s).found (run_first f (turn s).next))) idle
