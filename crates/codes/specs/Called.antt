-- A search called from C: the total, or minus the refusal's number and 256 times its place; the hits, and the three counts, in lent memory.
--
--   counts_of r         the scan tests, shift tests and word steps of a run
--   Lists              the two lent lists
--   Called             the promise of a search from C
--   short_of c          what is answered where too few counts are lent, and the checks say c
--   total_of, answered_code, answered_counts   what C is told of a search's answer
use Rattle.std.specs.Prelude.{ℕ, List, [], ◌∷◌, ℤ, pos, length, Result, Ok, Err}
use Rattle.promise.specs.Promised.{Promised}
use Rattle.lent.specs.Over.{over}
use Rattle.hits.specs.Hits.{hits}
use Rattle.hits.specs.Turns.{Run}
use Rattle.inputs.specs.Refusals.{Check, verdict, both, with_room}
use Rattle.inputs.specs.Answers.{list_of}
use Rattle.hits.specs.declared.work.Work.{Work}
use Rattle.inputs.specs.declared.refusal.Kind.TheVariants.{Room}
use Rattle.inputs.specs.declared.refusal.Refusal.{Refusal}
use Rattle.codes.specs.Codes.{refused_code, code_of}

abbrev pub counts_of : Run → List ℕ
counts_of r = r.scan ∷ r.shift ∷ r.steps ∷ []

pub record Lists : Type 0 where
  pub starts : List ℕ
  pub counts : List ℕ

-- a search by an engine whose rule makes this run: d and w are the lent lists before. 8 where w has no room for three counts, after all other checks
abbrev pub Called : (List ℕ → List ℕ → Run) → ℕ → ℕ → ℕ → ℕ → List ℕ → List ℕ → List ℕ → List ℕ → ℤ → List ℕ → List ℕ → Type 0
Called rule K M N k P T d w r starts counts =
    let c = with_room 3 (length w) (verdict K M N k P T) in
    Promised
    {B = Lists}
    (code_of c (length (hits P T)))
    (record { starts = list_of c (hits P T) d; counts = list_of c (counts_of (rule P T)) w })
    r
    (record { starts = starts; counts = counts })

abbrev pub short_of : Check → ℤ
short_of c = code_of (both c (Err (record { kind = Room; place = 0 }))) 0

abbrev pub total_of : Result Work Refusal → ℕ
total_of (Err r) = 0
total_of (Ok w) = w.total

abbrev pub answered_code : Result Work Refusal → ℤ
answered_code (Err r) = refused_code r
answered_code (Ok w) = pos w.total

abbrev pub answered_counts : Result Work Refusal → List ℕ → List ℕ
answered_counts (Err r) d = d
answered_counts (Ok w) d = over (w.scan ∷ w.shift ∷ w.steps ∷ []) d
