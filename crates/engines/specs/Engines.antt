-- The six engines: their order and names in the report, their rules, and what they promise of their counts.
--
--   the_six            the engines in the report's order
--   name_of e          its name there, with the space after it
--   run_of e P T       the run that its rule makes
--   Bounded e P T r   how large the counts of its answer r can be
use Rattle.std.specs.Prelude.{ℕ, ◌+◌, ◌-◌, ◌*◌, ◌≤◌, ◌≡◌, List, [], ◌∷◌, length, Result}
use Rattle.hits.specs.Turns.{Run}
use Rattle.hits.specs.declared.work.Work.{Work}
use Rattle.inputs.specs.declared.refusal.Refusal.{Refusal}
use Rattle.inputs.specs.Answers.{scan_of, shift_of, steps_of}
use Rattle.brute.specs.Brute.{brute_run}
use Rattle.kmp.specs.Kmp.{kmp_run}
use Rattle.bm.specs.Bm.{bm_run}
use Rattle.sunday.specs.Sunday.{sunday_run}
use Rattle.shiftand.specs.ShiftAnd.{shiftand_run, StepsAre}
use Rattle.hybrid.specs.Hybrid.{hybrid_run}
use Rattle.engines.specs.declared.engine.Engine.{Engine}
use Rattle.engines.specs.declared.engine.Engine.TheVariants.{Brute, Kmp, Bm, Sunday, ShiftAnd, Hybrid}

abbrev pub the_six : List Engine
the_six = Brute ∷ Kmp ∷ Bm ∷ Sunday ∷ ShiftAnd ∷ Hybrid ∷ []

-- `brute`, `kmp`, `bm`, `sunday`, `shiftand`, `hybrid`
abbrev pub name_of : Engine → List ℕ
name_of Brute = 98 ∷ 114 ∷ 117 ∷ 116 ∷ 101 ∷ 32 ∷ []
name_of Kmp = 107 ∷ 109 ∷ 112 ∷ 32 ∷ []
name_of Bm = 98 ∷ 109 ∷ 32 ∷ []
name_of Sunday = 115 ∷ 117 ∷ 110 ∷ 100 ∷ 97 ∷ 121 ∷ 32 ∷ []
name_of ShiftAnd = 115 ∷ 104 ∷ 105 ∷ 102 ∷ 116 ∷ 97 ∷ 110 ∷ 100 ∷ 32 ∷ []
name_of Hybrid = 104 ∷ 121 ∷ 98 ∷ 114 ∷ 105 ∷ 100 ∷ 32 ∷ []

abbrev pub run_of : Engine → List ℕ → List ℕ → Run
run_of Brute = brute_run
run_of Kmp = kmp_run
run_of Bm = bm_run
run_of Sunday = sunday_run
run_of ShiftAnd = shiftand_run
run_of Hybrid = hybrid_run

-- with m = length P and n = length T
abbrev pub Bounded : Engine → List ℕ → List ℕ → Result Work Refusal → Type 0
Bounded Brute P T r = scan_of r ≤ length P * (length T + 1 - length P)
Bounded Kmp P T r =
    (length P ≤ length T → scan_of r ≤ 2 * length T - length P)
    × (length P ≤ length T → shift_of r ≤ (length T - length P) * (length P - 1))
Bounded Bm P T r =
    (scan_of r ≤ length P * (length T + 1 - length P)) × (shift_of r ≤ (length T - length P) * (length P - 1))
Bounded Sunday P T r = scan_of r ≤ length P * (length T + 1 - length P)
Bounded ShiftAnd P T r = ((scan_of r ≡ 0) × (shift_of r ≡ 0) × (steps_of r ≤ length T)) × StepsAre P T r
Bounded Hybrid P T r =
    (scan_of r ≤ length T + 1 - length P) × (steps_of r ≤ length T) × (scan_of r + steps_of r ≤ 2 * length T + 1 - length P)
