-- `reportbytes::lines::put_report` meets its contract: its four pieces one after another. Assumes nothing.
use mathlib.Core.List.{List, ◌++◌, map}
use Prim.Native.Nat.{ℕ, ◌+◌, ◌≤◌}
use native.Mathlib.Omega.{arith}
use lib.ListN.{length}
use Rattle.hits.specs.declared.work.Work.{Work}
use Rattle.decimal.specs.Decimal.{ended}
use Rattle.engines.specs.Engines.{the_six}
use Rattle.reportbytes.specs.Values.{run_in, values_in}
use Rattle.reportbytes.specs.Bytes.{hits_name, start_lines, engine_lines, bytes_of}
use Rattle.reportbytes.proofs.PutLaws.{put_first, put_room, put_both}
use Rattle.reportbytes.proofs.lines.put_report.Goals as goal

-- the pieces after the name
abbrev total : List ℕ → List ℕ
total starts = ended (length starts) 10

abbrev engines : List Work → List ℕ
engines works = engine_lines the_six (map run_in works)

-- they are put from 0 on
fits : (works : List Work) (starts : List ℕ) (n : ℕ) → length (bytes_of (values_in works starts)) ≤ n → 0 + length (bytes_of (values_in works starts)) ≤ n
fits works starts n h = omega (arith, h)

abbrev after_total : List Work → List ℕ → List ℕ
after_total works starts = start_lines starts ++ engines works

pub put_bytes-a-requires : goal.put_bytes-a-requires
unfolding bytes_of
put_bytes-a-requires c =
    let a = c.args in
    put_first 0 _ hits_name (total a.starts.now ++ after_total a.works.now a.starts.now) (fits a.works.now a.starts.now _ c.requires)

pub put_ended-b-requires : goal.put_ended-b-requires
unfolding bytes_of
put_ended-b-requires c =
    let a = c.args in
    put_first _ _ (total a.starts.now) (after_total a.works.now a.starts.now) (put_room _ _ hits_name _ c.put_bytes-a.ensures (fits a.works.now a.starts.now _ c.requires))

pub put_starts-c-requires : goal.put_starts-c-requires
unfolding bytes_of
put_starts-c-requires c =
    let a = c.args in
    put_first _ _ (start_lines a.starts.now) (engines a.works.now)
    (put_room _ _ (total a.starts.now) _ c.put_ended-b.ensures (put_room _ _ hits_name _ c.put_bytes-a.ensures (fits a.works.now a.starts.now _ c.requires)))

pub put_engines-requires : goal.put_engines-requires
unfolding bytes_of
put_engines-requires c =
    let a = c.args in
    put_room _ _ (start_lines a.starts.now) (engines a.works.now) c.put_starts-c.ensures
    (put_room _ _ (total a.starts.now) _ c.put_ended-b.ensures (put_room _ _ hits_name _ c.put_bytes-a.ensures (fits a.works.now a.starts.now _ c.requires)))

pub returns : goal.returns
unfolding bytes_of
returns c =
    let a = c.args in
    let p =
    put_both _ _ hits_name _ c.put_bytes-a.ensures
    (put_both _ _ (total a.starts.now) _ c.put_ended-b.ensures
    (put_both _ _ (start_lines a.starts.now) (engines a.works.now) c.put_starts-c.ensures c.put_engines.ensures)) in
    (omega (arith, p.0), p.1)
