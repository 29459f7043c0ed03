-- How long the line of a refusal is, and what printing comes to. Assumes nothing.
use mathlib.Core.Path.{◌≡◌, refl, sym, ap, ◌∙◌}
use mathlib.Core.Bool.{Bool, true, false}
use mathlib.Core.List.{List, ◌++◌}
use Prim.Native.Nat.{ℕ, ◌^◌, ◌≤◌, ◌<◌, min}
use native.Mathlib.Omega.{arith}
use borrow.Author.Tests.{lt-ltb, leb-true, leb-false}
use lib.Dec.{leb, ltb}
use lib.ListN.{length, take, length-append}
use lib.Seq.{take_all, take-length}
use Rattle.promise.specs.Promised.{Promised}
use Rattle.letters.proofs.Truth.{bool_cases}
use Rattle.lent.specs.Over.{over}
use Rattle.inputs.specs.Answers.{written_of, list_of}
use Rattle.inputs.specs.declared.refusal.Refusal.{Refusal}
use Rattle.inputs.specs.declared.refusal.Kind.TheVariants.{Room}
use Rattle.inputs.specs.Numbers as Numbers
use Rattle.std.specs.Prelude.{Result, Ok, Err}
use Rattle.sheet.specs.Reader.{refusal, Strings, refuse_at, and_then, planning, reading}
use Rattle.sheet.specs.Answers.{check_of}
use Rattle.decimal.specs.Decimal.{ended}
use Rattle.reportbytes.specs.Bytes.{bytes_of}
use Rattle.decimal.proofs.DecimalLaws.{ended_fits}
use Rattle.report.specs.Values.{values_of}
use Rattle.report.specs.Report.{read_alone, fitting, report_for, bytes_in, BytesInto, ReportInto, number_of, Enough}
use Rattle.report.proofs.PromiseLaws.{alone_never_eight}
use Rattle.printed.specs.Printed.{refused_name, at_name, refusal_line, bytes_for, report_of, printed, PrintInto, NoMore}

pub line_short : (number place : ℕ) → number < 2 ^ 64 → place < 2 ^ 64 → length (refusal_line number place) ≤ 53
unfolding refusal_line
line_short number place h k =
    let a = length-append refused_name (ended number 32 ++ (at_name ++ ended place 10)) in
    let b = length-append (ended number 32) (at_name ++ ended place 10) in
    let c = length-append at_name (ended place 10) in
    omega (arith, a, b, c, ended_fits number 32 h, ended_fits place 10 k)

-- the first n bytes, of which there may be fewer
pub take_min : (n : ℕ) (s : List ℕ) → take (min n (length s)) s ≡ take n s
take_min n s =
    bool_cases (leb n (length s))
    (λ y. let h : n ≤ length s = leb-true _ _ y in let z : min n (length s) ≡ n = omega arith in rw z)
    (λ x. let h : length s < n = leb-false _ _ x in let z : min n (length s) ≡ length s = omega arith in rw z (take-length s ∙ sym (take_all n s (omega arith))))

-- with room for any report, the call that refuses one that does not fit gives it
pub roomy : (B K M N R : ℕ) (s d : List ℕ) (r : Result ℕ Refusal) (after : List ℕ) → ReportInto B K M N s d r after → Enough R d r → R ≤ length d → BytesInto (report_of B K M N s) d r after
unfolding report_for report_of fitting refuse_at
roomy B K M N R s d r after p never l = go (read_alone B K M N s) p
  where
    fit : (b : List ℕ) (t : Bool) → BytesInto (refuse_at t Room 0 (Ok b)) d r after → BytesInto (Ok b) d r after
    fit b true q = absurd (never l (ap number_of q.answers))
    fit b false q = q

    go : (o : Result Strings Refusal) → BytesInto (and_then o (λ w. fitting (length d) (bytes_of (values_of w.pattern w.text)))) d r after
        → BytesInto (and_then o (λ w. Ok (bytes_of (values_of w.pattern w.text)))) d r after
    go (Ok w) q = fit (bytes_of (values_of w.pattern w.text)) (ltb (length d) (length (bytes_of (values_of w.pattern w.text)))) q
    go (Err r') q = q

-- no report is refused with 8
pub never_eight : (B K M N : ℕ) (s : List ℕ) (q : ℕ) → report_of B K M N s ≡ refusal Room q → ⊥
unfolding report_of
never_eight B K M N s q e = go (read_alone B K M N s) refl e
  where
    go : (o : Result Strings Refusal) → read_alone B K M N s ≡ o → and_then o (λ w. Ok (bytes_of (values_of w.pattern w.text))) ≡ refusal Room q → ⊥
    go (Ok w) f e = let z : ◌≡◌ {A = ℕ} 0 1 = cc in omega arith
    go (Err r) f e =
        let z : r ≡ record { kind = Room; place = q } = cc in
        alone_never_eight B K M N s q (f ∙ ap Err z)

-- too long a sheet stays too long
pub no_more : (B K M N : ℕ) (list : List ℕ) (n : ℕ) → B < length list → NoMore B K M N list n
unfolding printed report_of read_alone reading planning refuse_at
no_more B K M N list n h rest l =
    let a : B < length (list ++ rest) = omega (arith, length-append list rest) in
    rw (take_all n list l, lt-ltb B (length (list ++ rest)) a, lt-ltb B (length list) h)

module _ (B K M N : ℕ) (s d : List ℕ) where
  -- the report was written
  pub print_report : (n : ℕ) (after : List ℕ) → BytesInto (report_of B K M N s) d (Ok n) after → PrintInto B K M N s d n after
  unfolding printed
  print_report n after p = go (report_of B K M N s) p.answers p.leaves
    where
      go : (o : Result (List ℕ) Refusal) → Ok n ≡ written_of (check_of o) (bytes_in o) → after ≡ list_of (check_of o) (bytes_in o) d → Promised (length (bytes_for o)) (over (bytes_for o) d) n after
      go (Ok bytes) e f = record { answers = cc; leaves = f }
      go (Err r) e f = absurd (let z : ◌≡◌ {A = ℕ} 0 1 = cc in omega arith)

  -- the sheet was refused, and the line written into the list, which was as before
  pub print_refusal : (r : Refusal) (kept : List ℕ) (n : ℕ) (after : List ℕ) → BytesInto (report_of B K M N s) d (Err r) kept
      → n ≡ length (refusal_line (Numbers.number_of r.kind) r.place) → after ≡ over (refusal_line (Numbers.number_of r.kind) r.place) kept → PrintInto B K M N s d n after
  unfolding printed
  print_refusal r kept n after p en ea = go (report_of B K M N s) p.answers p.leaves
    where
      go : (o : Result (List ℕ) Refusal) → Err r ≡ written_of (check_of o) (bytes_in o) → kept ≡ list_of (check_of o) (bytes_in o) d → Promised (length (bytes_for o)) (over (bytes_for o) d) n after
      go (Ok bytes) e f = absurd (let z : ◌≡◌ {A = ℕ} 0 1 = cc in omega arith)
      go (Err r') e f =
          let q : r ≡ r' = cc in
          record { answers = en ∙ rw q; leaves = ea ∙ rw (q, f) }

-- the first n bytes of s are the sheet, as the code takes them
module _ (B K M N R : ℕ) (s d : List ℕ) (n read : ℕ) (q : read ≡ min n (length s)) (l : R ≤ length d) where
  taken : (r : Result ℕ Refusal) (after : List ℕ) → ReportInto B K M N (take read s) d r after → Enough R d r → BytesInto (report_of B K M N (take n s)) d r after
  taken r after p e = roomy B K M N R (take n s) d r after (rw (q, take_min n s) at p) e l

  pub front_report : (len : ℕ) (after : List ℕ) → ReportInto B K M N (take read s) d (Ok len) after → Enough R d (Ok len) → PrintInto B K M N (take n s) d len after
  front_report len after p e = print_report B K M N (take n s) d len after (taken (Ok len) after p e)

  pub front_refusal : (r : Refusal) (kept : List ℕ) (len : ℕ) (after : List ℕ) → ReportInto B K M N (take read s) d (Err r) kept → Enough R d (Err r)
      → len ≡ length (refusal_line (Numbers.number_of r.kind) r.place) → after ≡ over (refusal_line (Numbers.number_of r.kind) r.place) kept → PrintInto B K M N (take n s) d len after
  front_refusal r kept len after p e en ea = print_refusal B K M N (take n s) d r kept len after (taken (Err r) kept p e) en ea
