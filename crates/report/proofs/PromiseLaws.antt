-- The promise of the report, case by case. Assumes nothing.
use Prim.Native.Nat.{ℕ, ◌^◌, ◌≤◌, ◌<◌}
use mathlib.Core.Path.{◌≡◌, refl, sym, ap, ap₂, ◌∙◌}
use mathlib.Core.Bool.{Bool, true, false}
use mathlib.Core.List.{List}
use native.Mathlib.Omega.{arith}
use borrow.Author.Tests.{lt-ltb, le-ltb, ltb-true}
use lib.Dec.{ltb}
use lib.ListN.{length, drop, take, length-drop}
use Rattle.lent.specs.Over.{over}
use Rattle.lent.proofs.OverLaws.{length_over, take_over}
use Rattle.std.specs.Prelude.{Result, Ok, Err}
use Rattle.inputs.specs.Refusals.{verdict}
use Rattle.inputs.specs.Answers.{written_of}
use Rattle.inputs.specs.Numbers as Numbers
use Rattle.inputs.specs.declared.refusal.Kind.{Kind}
use Rattle.inputs.specs.declared.refusal.Kind.TheVariants.{AlphabetSize, PatternLength, TextLength, PatternLetter, TextLetter, ProductAlphabet, NoProduct, Room, SheetLength, CountLine, AlphabetLine, LetterLine, LetterCount, Surplus, Start}
use Rattle.inputs.specs.declared.refusal.Refusal.{Refusal}
use Rattle.inputs.proofs.CheckLaws.{sized}
use Rattle.codes.specs.Codes.{wrote_of}
use Rattle.notation.specs.Reader.{out}
use Rattle.notation.proofs.ReadLaws.{read_in}
use Rattle.sheet.specs.Reader.{refusal, refuse_at, Strings, reading}
use Rattle.sheet.specs.Answers.{check_of, taken_of, left_of, ReadInto}
use Rattle.sheet.specs.declared.Sizes.{Sizes}
use Rattle.sheet.proofs.SectionLaws.{reading_found}
use Rattle.sheet.proofs.RoundTrip.{read_accepted}
use Rattle.reportbytes.specs.Bytes.{bytes_of}
use Rattle.report.specs.Values.{values_of}
use Rattle.report.specs.Report.{read_alone, fitting, report_for, bytes_in, BytesInto, ReportInto, number_of, Enough}
use Rattle.report.proofs.RoomLaws.{Ample, same_reading, never_eight}
use Rattle.report.proofs.BoundLaws.{most, bytes_most}

-- bytes that do not fit, and bytes that do
module _ (bytes d : List ℕ) where
  pub too_short : length d < length bytes → BytesInto (fitting (length d) bytes) d (refusal Room 0) d
  unfolding fitting refuse_at
  too_short h = rw (lt-ltb (length d) (length bytes) h) (record { answers = refl; leaves = refl })

  pub fits : length bytes ≤ length d → (n : ℕ) (after : List ℕ) → n ≡ length bytes → after ≡ over bytes d → BytesInto (fitting (length d) bytes) d (Ok n) after
  unfolding fitting refuse_at
  fits h n after en ea = rw (le-ltb (length d) (length bytes) h) (record { answers = ap Ok en; leaves = ea })

-- no report has more than R bytes: R bytes are enough, and no more are written
pub bounds : (R : ℕ) (bytes d : List ℕ) (r : Result ℕ Refusal) (after : List ℕ) → length bytes ≤ R → BytesInto (fitting (length d) bytes) d r after → Enough R d r × (wrote_of r ≤ R)
unfolding fitting refuse_at
bounds R bytes d r after h w = go (ltb (length d) (length bytes)) refl w.answers
  where
    go : (b : Bool) → ltb (length d) (length bytes) ≡ b → r ≡ written_of (check_of (refuse_at b Room 0 (Ok bytes))) (bytes_in (refuse_at b Room 0 (Ok bytes))) → Enough R d r × (wrote_of r ≤ R)
    go true t e = (λ l z. omega (arith, ltb-true (length d) (length bytes) t), rw e (omega arith))
    go false t e = (λ l z. let n : number_of r ≡ 0 = ap number_of e in omega arith, rw e h)

-- a sheet that is read: its text has fewer letters than the largest sheet has bytes, and its strings pass the checks of a search
pub record Good (B K M N : ℕ) (w : Strings) : Type 0 where
  pub short : length w.text < B
  pub passed : verdict K M N (length w.alphabet) w.pattern w.text ≡ Ok tt

pub good : (B K M N : ℕ) (d : Strings) (s : List ℕ) (w : Strings) → reading B K M N d s ≡ Ok w → Good B K M N w
good B K M N d s w q =
    let F = reading_found B K M N d s w q in
    let t = F.whole.text in
    let h = read_in _ F.whole.alphabet.string (drop t.from s) out t.from t.string t.next F.sections.both.text.reads in
    record {
      short = omega (arith, h.0, h.1, length-drop t.from s, F.sections.small, ap (λ (x : Strings). length x.text) F.is);
      passed = read_accepted B K M N d s w q;
    }

-- no report of an accepted sheet is longer
pub report_bound : {B K M N : ℕ} {w : Strings} → Good B K M N w → B ≤ 10 ^ 20 → length (bytes_of (values_of w.pattern w.text)) ≤ most B M
report_bound {B} {K} {M} {N} {w} g l =
    let few = sized K M N (length w.alphabet) w.pattern w.text g.passed in
    let short : length w.text < B = g.short in
    bytes_most (record { pattern = few.pattern; small = omega arith }) short l

-- the sheet by itself: lists as long as the sheet are ample
alone : (K M : ℕ) (s : List ℕ) → Ample K M s (record { alphabet = s; pattern = s; text = s })
alone K M s = record { alphabet = λ k h l. l; pattern = λ m h l. l; text = omega arith }

module _ (B K M N : ℕ) (s : List ℕ) where
  -- and so are lists of K, M and B
  pub read_alone_lem : (d : Strings) → length d.alphabet ≡ K → length d.pattern ≡ M → length d.text ≡ B → read_alone B K M N s ≡ reading B K M N d s
  unfolding read_alone
  read_alone_lem d a p t =
      same_reading B K M N s _ d (λ small. (alone K M s, record { alphabet = λ k h l. omega arith; pattern = λ m h l. omega arith; text = omega arith }))

  pub alone_never_eight : (place : ℕ) → read_alone B K M N s ≡ refusal Room place → ⊥
  unfolding read_alone
  alone_never_eight place e =
      let d : Strings = record { alphabet = s; pattern = s; text = s } in
      never_eight B K M N s d d (λ small. (alone K M s, alone K M s)) place e

-- the reader leaves each list as long as it was
record SameLengths (d after : Strings) : Type 0 where
  alphabet : length after.alphabet ≡ length d.alphabet
  pattern : length after.pattern ≡ length d.pattern
  text : length after.text ≡ length d.text

left_lengths : (d : Strings) (o : Result Strings Refusal) → SameLengths d (left_of o d)
left_lengths d (Err r) = record { alphabet = refl; pattern = refl; text = refl }
left_lengths d (Ok w) = record { alphabet = length_over w.alphabet d.alphabet; pattern = length_over w.pattern d.pattern; text = length_over w.text d.text }

-- its outcome, from its answer
unread : (o : Result Strings Refusal) (q : Refusal) → Err q ≡ taken_of o → o ≡ Err q
unread (Err r) q e = cc
unread (Ok w) q e = absurd (let z : ◌≡◌ {A = ℕ} 0 1 = cc in omega arith)

read_sizes : (o : Result Strings Refusal) (z : Sizes) → Ok z ≡ taken_of o
    → (w : Strings) × (o ≡ Ok w) × (z ≡ record { k = length w.alphabet; m = length w.pattern; n = length w.text })
read_sizes (Err r) z e = absurd (let v : ◌≡◌ {A = ℕ} 0 1 = cc in omega arith)
read_sizes (Ok w) z e = (w, refl, (cc))

-- what was read into lists that are ample: the strings stand in front
pub record Got (B K M N : ℕ) (s : List ℕ) (z : Sizes) (pattern text : List ℕ) : Type 0 where
  pub strings : Strings
  pub is : read_alone B K M N s ≡ Ok strings
  pub right : Good B K M N strings
  pub size : z.k ≡ length strings.alphabet
  pub pattern_fits : z.m ≤ length pattern
  pub text_fits : z.n ≤ length text
  pub pattern_is : take z.m pattern ≡ strings.pattern
  pub text_is : take z.n text ≡ strings.text

module _ (B K M N : ℕ) (s : List ℕ) (d after : Strings) (r : Result Sizes Refusal) (p : ReadInto B K M N s d r after) (la : length after.alphabet ≡ K) (lp : length after.pattern ≡ M) (lt : length after.text ≡ B) where
  alone_is : read_alone B K M N s ≡ reading B K M N d s
  alone_is =
      let l : SameLengths d after = rw p.leaves (left_lengths d (reading B K M N d s)) in
      read_alone_lem B K M N s d (sym l.alphabet ∙ la) (sym l.pattern ∙ lp) (sym l.text ∙ lt)

  pub got_refused : (q : Refusal) → r ≡ Err q → read_alone B K M N s ≡ Err q
  got_refused q e = alone_is ∙ unread (reading B K M N d s) q (sym e ∙ p.answers)

  pub got_read : (z : Sizes) → r ≡ Ok z → Got B K M N s z after.pattern after.text
  got_read z e =
      let v = read_sizes (reading B K M N d s) z (sym e ∙ p.answers) in
      let w = v.0 in
      let g = good B K M N d s w v.1 in
      let m : z.m ≡ length w.pattern = ap (λ (x : Sizes). x.m) v.2 in
      let n : z.n ≡ length w.text = ap (λ (x : Sizes). x.n) v.2 in
      let few : length w.pattern ≤ M = (sized K M N (length w.alphabet) w.pattern w.text g.passed).pattern.short in
      let short : length w.text < B = g.short in
      let l : after ≡ left_of (Ok w) d = p.leaves ∙ ap (λ (x : Result Strings Refusal). left_of x d) v.1 in
      let ep : after.pattern ≡ over w.pattern d.pattern = ap (λ (x : Strings). x.pattern) l in
      let et : after.text ≡ over w.text d.text = ap (λ (x : Strings). x.text) l in
      record {
        strings = w;
        is = alone_is ∙ v.1;
        right = g;
        size = ap (λ (x : Sizes). x.k) v.2;
        pattern_fits = omega arith;
        text_fits = omega arith;
        pattern_is = ap₂ take m ep ∙ take_over w.pattern d.pattern (omega (arith, ap length ep, length_over w.pattern d.pattern));
        text_is = ap₂ take n et ∙ take_over w.text d.text (omega (arith, ap length et, length_over w.text d.text));
      }

-- the strings that were read may be searched
pub searchable : {B K M N : ℕ} {s : List ℕ} {z : Sizes} {pattern text : List ℕ} → Got B K M N s z pattern text
    → (verdict K M N z.k (take z.m pattern) (take z.n text) ≡ Ok tt) × (length (take z.n text) < B)
searchable g = (rw (g.size, g.pattern_is, g.text_is) g.right.passed, rw g.text_is g.right.short)

-- only a refusal for want of room has the number 8
room_is : (k : Kind) → Numbers.number_of k ≡ 8 → k ≡ Room
room_is Room e = refl
room_is AlphabetSize e = absurd (omega arith)
room_is PatternLength e = absurd (omega arith)
room_is TextLength e = absurd (omega arith)
room_is PatternLetter e = absurd (omega arith)
room_is TextLetter e = absurd (omega arith)
room_is ProductAlphabet e = absurd (omega arith)
room_is NoProduct e = absurd (omega arith)
room_is SheetLength e = absurd (omega arith)
room_is CountLine e = absurd (omega arith)
room_is AlphabetLine e = absurd (omega arith)
room_is LetterLine e = absurd (omega arith)
room_is LetterCount e = absurd (omega arith)
room_is Surplus e = absurd (omega arith)
room_is Start e = absurd (omega arith)

-- the report of a sheet that is refused, and of one that is read
module _ (B K M N R : ℕ) (s d : List ℕ) where
  pub sheet_refused : (q : Refusal) → read_alone B K M N s ≡ Err q → (r : Result ℕ Refusal) → r ≡ Err q
      → ReportInto B K M N s d r d × (Enough R d r × (wrote_of r ≤ R))
  unfolding report_for
  sheet_refused q e r is =
      rw is (
        rw e (record { answers = refl; leaves = refl }),
        (λ h z. alone_never_eight B K M N s q.place (e ∙ ap (λ (x : Kind). refusal x q.place) (room_is q.kind z)), omega arith),
      )

  pub sheet_read : {z : Sizes} {pattern text : List ℕ} (r : Result ℕ Refusal) (after : List ℕ) → Got B K M N s z pattern text
      → BytesInto (fitting (length d) (bytes_of (values_of (take z.m pattern) (take z.n text)))) d r after
      → B ≤ 10 ^ 20 → most B M ≤ R → ReportInto B K M N s d r after × (Enough R d r × (wrote_of r ≤ R))
  unfolding report_for
  sheet_read r after g h l f =
      let w = g.strings in
      let i : BytesInto (fitting (length d) (bytes_of (values_of w.pattern w.text))) d r after = rw (← g.pattern_is, ← g.text_is) h in
      (rw g.is i, bounds R (bytes_of (values_of w.pattern w.text)) d r after (omega (arith, report_bound g.right l)) i)
