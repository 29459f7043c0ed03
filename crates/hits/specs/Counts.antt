-- What a search counts, in the code's types, and what noting hits leaves in a lent list.
--
--   work_of hs r      the total of the hits hs, and the three counts of a run
--   turn_of i r       the turn at start i that a step of the code stands for
--   tally b          1 for a test that holds
--   noted b d t i    the start i, if it is a hit, noted in the list d after t others
--   noted_all hs d t  several hits, noted one after the other
use Rattle.std.specs.Prelude.{ℕ, suc, Bool, true, false, List, [], ◌∷◌, length, set}
use Rattle.letters.specs.Members.{keep}
use Rattle.hits.specs.Turns.{Turn, Run}
use Rattle.hits.specs.declared.work.Work.{Work}
use Rattle.hits.specs.declared.work.Turned.{Turned}

-- the total of these hits, and the three counts of a run
abbrev pub work_of : List ℕ → Run → Work
work_of hs r = record { total = length hs; scan = r.scan; shift = r.shift; steps = r.steps }

-- the turn at start i that a step of the code stands for
abbrev pub turn_of : ℕ → Turned → Turn ℕ
turn_of i r = record { found = keep r.hit i []; next = r.next; scan = r.scan; shift = r.shift; steps = 0 }

-- 1 for a test that holds
abbrev pub tally : Bool → ℕ
tally true = 1
tally false = 0

-- a start, if it is a hit, noted in a list after `total` others; past the list's end nothing is written
abbrev pub noted : Bool → List ℕ → ℕ → ℕ → List ℕ
noted true d total at = set d total at
noted false d total at = d

-- several hits, noted one after the other
unfoldable pub noted_all : List ℕ → List ℕ → ℕ → List ℕ
noted_all [] d total = d
noted_all (x ∷ xs) d total = noted_all xs (set d total x) (suc total)
