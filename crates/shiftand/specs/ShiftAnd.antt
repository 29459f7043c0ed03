-- ShiftAnd: one word step a text letter, n in all when m is at most n. No tests.
--
--   Reading          how many letters are read, and the state after them
--   lettered P e w   what the letter before e comes to, if the state after it is w
--   shiftand_turn     a turn: the next text letter
--   shiftand_run      the run over all letters
--   word_turn_of P r   the turn that a step of the code stands for
--   StepsAre P T r   the number of word steps that the answer r has
use Rattle.std.specs.Prelude.{ℕ, ◌+◌, ◌-◌, ◌≤◌, ◌≡◌, Bool, ◌&&◌, List, [], leb, ltb, length, get_or, Result, Ok, Err}
use Rattle.letters.specs.Members.{keep}
use Rattle.hits.specs.Turns.{Turn, Run, run}
use Rattle.hits.specs.declared.work.Work.{Work}
use Rattle.inputs.specs.declared.refusal.Refusal.{Refusal}
use Rattle.word.specs.Word.{stepped, is_set}
use Rattle.shiftand.specs.declared.WordTurned.{WordTurned}

-- how many letters are read, and the state after them
pub record Reading : Type 0 where
  pub read : ℕ
  pub word : ℕ

-- what a letter comes to: the number of letters read with it, and the state after it. The pattern ends here if its last position is set
abbrev pub lettered : List ℕ → ℕ → ℕ → Turn Reading
lettered P e w =
    record {
      found = keep (is_set (length P - 1) w) (e - length P) [];
      next = record { read = e; word = w };
      scan = 0;
      shift = 0;
      steps = 1;
    }

-- a turn: the next text letter
unfoldable pub shiftand_turn : List ℕ → List ℕ → Reading → Turn Reading
shiftand_turn P T s = lettered P (s.read + 1) (stepped P (get_or T s.read 0) s.word)

-- letters are left, and m is at most n
abbrev pub unread : List ℕ → List ℕ → Reading → Bool
unread P T s = leb (length P) (length T) && ltb s.read (length T)

-- from the text's begin, with the state cleared
abbrev pub cleared : Reading
cleared = record { read = 0; word = 0 }

unfoldable pub shiftand_run : List ℕ → List ℕ → Run
shiftand_run P T = run (unread P T) (shiftand_turn P T) (length T) cleared

-- the turn that a step of the code stands for
abbrev pub word_turn_of : List ℕ → WordTurned → Turn Reading
word_turn_of P r =
    record {
      found = keep r.hit (r.read - length P) [];
      next = record { read = r.read; word = r.word };
      scan = 0;
      shift = 0;
      steps = 1;
    }

-- n in all when m is at most n; nothing is asked of a refusal
abbrev pub StepsAre : List ℕ → List ℕ → Result Work Refusal → Type 0
StepsAre P T (Err r) = Unit {0}
StepsAre P T (Ok w) = length P ≤ length T → w.steps ≡ length T
