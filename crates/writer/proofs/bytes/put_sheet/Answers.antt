-- `writer::bytes::put_sheet` meets its contract: after each part, what is left to write. Assumes nothing.
use Prim.Native.Nat.{ℕ, ◌+◌, ◌≤◌}
use mathlib.Core.Path.{◌∙◌}
use mathlib.Core.List.{List, [], ◌∷◌, ◌++◌}
use native.Mathlib.Omega.{arith}
use lib.ListN.{length}
use Rattle.decimal.specs.Decimal.{ended}
use Rattle.lent.proofs.OverLaws.{sets_over}
use Rattle.lent.proofs.StoreLaws.{Storing, so_none, so_same, so_front, so_next, so_back, so_last}
use Rattle.notation.specs.Spelling.{line}
use Rattle.sheet.specs.Bytes.{sheet_bytes}
use Rattle.writer.proofs.SheetLaws.{sheet_parts}
use Rattle.writer.proofs.bytes.put_sheet.Goals as goal

-- what is left to write: the text's line; with its count; with the pattern's line; with its count; with the alphabet's
module _ (A P T : List ℕ) where
  abbrev r5 : List ℕ
  r5 = line A T

  abbrev r4 : List ℕ
  r4 = ended (length T) 10 ++ r5

  abbrev r3 : List ℕ
  r3 = line A P ++ r4

  abbrev r2 : List ℕ
  r2 = ended (length P) 10 ++ r3

  abbrev r1 : List ℕ
  r1 = (A ++ (10 ∷ [])) ++ r2

  -- `left` of the sheet is left to write
  abbrev Stage : List ℕ → List ℕ → List ℕ → ℕ → Type 0
  Stage out left list e = Storing out 0 (sheet_bytes A P T) left list e

pub put_ended-a-requires : goal.put_ended-a-requires
put_ended-a-requires c =
    let A = c.args.alphabet.now in
    let P = c.args.pattern.now in
    let T = c.args.text.now in
    let out = c.args.out.now in
    let fits : 0 + length (sheet_bytes A P T) ≤ length out = omega (arith, c.requires.1) in
    let w0 : Stage A P T out (ended (length A) 10 ++ r1 A P T) out 0 = so_same _ _ _ _ _ _ (so_none _ _ _) _ (sheet_parts A P T) in
    so_front (ended (length A) 10) (r1 A P T) w0 fits

pub put_alphabet-b-requires : goal.put_alphabet-b-requires
put_alphabet-b-requires c =
    let A = c.args.alphabet.now in
    let P = c.args.pattern.now in
    let T = c.args.text.now in
    let out = c.args.out.now in
    let fits : 0 + length (sheet_bytes A P T) ≤ length out = omega (arith, c.requires.1) in
    let w0 : Stage A P T out (ended (length A) 10 ++ r1 A P T) out 0 = so_same _ _ _ _ _ _ (so_none _ _ _) _ (sheet_parts A P T) in
    let w1 : Stage A P T out (r1 A P T) c.put_ended-a.new.out c.put_ended-a.result = so_next (ended (length A) 10) _ w0 c.put_ended-a.ensures.1 c.put_ended-a.ensures.0 in
    so_front (A ++ (10 ∷ [])) (r2 A P T) w1 fits

pub put_ended-c-requires : goal.put_ended-c-requires
put_ended-c-requires c =
    let A = c.args.alphabet.now in
    let P = c.args.pattern.now in
    let T = c.args.text.now in
    let out = c.args.out.now in
    let fits : 0 + length (sheet_bytes A P T) ≤ length out = omega (arith, c.requires.1) in
    let w0 : Stage A P T out (ended (length A) 10 ++ r1 A P T) out 0 = so_same _ _ _ _ _ _ (so_none _ _ _) _ (sheet_parts A P T) in
    let w1 : Stage A P T out (r1 A P T) c.put_ended-a.new.out c.put_ended-a.result = so_next (ended (length A) 10) _ w0 c.put_ended-a.ensures.1 c.put_ended-a.ensures.0 in
    let w2 : Stage A P T out (r2 A P T) c.put_alphabet-b.new.out c.put_alphabet-b.result = so_next (A ++ (10 ∷ [])) _ w1 c.put_alphabet-b.ensures.1 c.put_alphabet-b.ensures.0 in
    so_front (ended (length P) 10) (r3 A P T) w2 fits

pub put_line-d-requires : goal.put_line-d-requires
put_line-d-requires c =
    let A = c.args.alphabet.now in
    let P = c.args.pattern.now in
    let T = c.args.text.now in
    let out = c.args.out.now in
    let fits : 0 + length (sheet_bytes A P T) ≤ length out = omega (arith, c.requires.1) in
    let w0 : Stage A P T out (ended (length A) 10 ++ r1 A P T) out 0 = so_same _ _ _ _ _ _ (so_none _ _ _) _ (sheet_parts A P T) in
    let w1 : Stage A P T out (r1 A P T) c.put_ended-a.new.out c.put_ended-a.result = so_next (ended (length A) 10) _ w0 c.put_ended-a.ensures.1 c.put_ended-a.ensures.0 in
    let w2 : Stage A P T out (r2 A P T) c.put_alphabet-b.new.out c.put_alphabet-b.result = so_next (A ++ (10 ∷ [])) _ w1 c.put_alphabet-b.ensures.1 c.put_alphabet-b.ensures.0 in
    let w3 : Stage A P T out (r3 A P T) c.put_ended-c.new.out c.put_ended-c.result = so_next (ended (length P) 10) _ w2 c.put_ended-c.ensures.1 c.put_ended-c.ensures.0 in
    (c.requires.0.few, c.requires.0.pattern, so_front (line A P) (r4 A P T) w3 fits)

pub put_ended-e-requires : goal.put_ended-e-requires
put_ended-e-requires c =
    let A = c.args.alphabet.now in
    let P = c.args.pattern.now in
    let T = c.args.text.now in
    let out = c.args.out.now in
    let fits : 0 + length (sheet_bytes A P T) ≤ length out = omega (arith, c.requires.1) in
    let w0 : Stage A P T out (ended (length A) 10 ++ r1 A P T) out 0 = so_same _ _ _ _ _ _ (so_none _ _ _) _ (sheet_parts A P T) in
    let w1 : Stage A P T out (r1 A P T) c.put_ended-a.new.out c.put_ended-a.result = so_next (ended (length A) 10) _ w0 c.put_ended-a.ensures.1 c.put_ended-a.ensures.0 in
    let w2 : Stage A P T out (r2 A P T) c.put_alphabet-b.new.out c.put_alphabet-b.result = so_next (A ++ (10 ∷ [])) _ w1 c.put_alphabet-b.ensures.1 c.put_alphabet-b.ensures.0 in
    let w3 : Stage A P T out (r3 A P T) c.put_ended-c.new.out c.put_ended-c.result = so_next (ended (length P) 10) _ w2 c.put_ended-c.ensures.1 c.put_ended-c.ensures.0 in
    let w4 : Stage A P T out (r4 A P T) c.put_line-d.new.out c.put_line-d.result = so_next (line A P) _ w3 c.put_line-d.ensures.1 c.put_line-d.ensures.0 in
    so_front (ended (length T) 10) (r5 A P T) w4 fits

pub put_line-requires : goal.put_line-requires
put_line-requires c =
    let A = c.args.alphabet.now in
    let P = c.args.pattern.now in
    let T = c.args.text.now in
    let out = c.args.out.now in
    let fits : 0 + length (sheet_bytes A P T) ≤ length out = omega (arith, c.requires.1) in
    let w0 : Stage A P T out (ended (length A) 10 ++ r1 A P T) out 0 = so_same _ _ _ _ _ _ (so_none _ _ _) _ (sheet_parts A P T) in
    let w1 : Stage A P T out (r1 A P T) c.put_ended-a.new.out c.put_ended-a.result = so_next (ended (length A) 10) _ w0 c.put_ended-a.ensures.1 c.put_ended-a.ensures.0 in
    let w2 : Stage A P T out (r2 A P T) c.put_alphabet-b.new.out c.put_alphabet-b.result = so_next (A ++ (10 ∷ [])) _ w1 c.put_alphabet-b.ensures.1 c.put_alphabet-b.ensures.0 in
    let w3 : Stage A P T out (r3 A P T) c.put_ended-c.new.out c.put_ended-c.result = so_next (ended (length P) 10) _ w2 c.put_ended-c.ensures.1 c.put_ended-c.ensures.0 in
    let w4 : Stage A P T out (r4 A P T) c.put_line-d.new.out c.put_line-d.result = so_next (line A P) _ w3 c.put_line-d.ensures.1 c.put_line-d.ensures.0 in
    let w5 : Stage A P T out (r5 A P T) c.put_ended-e.new.out c.put_ended-e.result = so_next (ended (length T) 10) _ w4 c.put_ended-e.ensures.1 c.put_ended-e.ensures.0 in
    (c.requires.0.few, c.requires.0.text, so_back (r5 A P T) w5 fits)

pub returns : goal.returns
returns c =
    let A = c.args.alphabet.now in
    let P = c.args.pattern.now in
    let T = c.args.text.now in
    let out = c.args.out.now in
    let w0 : Stage A P T out (ended (length A) 10 ++ r1 A P T) out 0 = so_same _ _ _ _ _ _ (so_none _ _ _) _ (sheet_parts A P T) in
    let w1 : Stage A P T out (r1 A P T) c.put_ended-a.new.out c.put_ended-a.result = so_next (ended (length A) 10) _ w0 c.put_ended-a.ensures.1 c.put_ended-a.ensures.0 in
    let w2 : Stage A P T out (r2 A P T) c.put_alphabet-b.new.out c.put_alphabet-b.result = so_next (A ++ (10 ∷ [])) _ w1 c.put_alphabet-b.ensures.1 c.put_alphabet-b.ensures.0 in
    let w3 : Stage A P T out (r3 A P T) c.put_ended-c.new.out c.put_ended-c.result = so_next (ended (length P) 10) _ w2 c.put_ended-c.ensures.1 c.put_ended-c.ensures.0 in
    let w4 : Stage A P T out (r4 A P T) c.put_line-d.new.out c.put_line-d.result = so_next (line A P) _ w3 c.put_line-d.ensures.1 c.put_line-d.ensures.0 in
    let w5 : Stage A P T out (r5 A P T) c.put_ended-e.new.out c.put_ended-e.result = so_next (ended (length T) 10) _ w4 c.put_ended-e.ensures.1 c.put_ended-e.ensures.0 in
    (so_last (r5 A P T) w5 c.put_line.ensures.1 c.put_line.ensures.0).1 ∙ sets_over _ _
