-- `notation::alphabet::Notation::read_one` meets its contract: the tests that led to a return say what stands there. Assumes nothing.
use Rattle.std.proofs.Common.{ℕ, ◌+◌, ◌-◌, ◌^◌, Some, Ok, arith, sym, ap, ◌∙◌}
use Rattle.std.proofs.lemmas.Result.{err_from_is_err_and}
use Rattle.notation.specs.Answers.{one_of}
use Rattle.notation.proofs.OneLaws.{one_end, one_lf, one_single, one_star, one_star_few, one_open, one_few, one_mark, one_no_mark, one_none}
use Rattle.notation.proofs.alphabet.Notation.read_one.Goals as goal

pub returns-then-at-sheet : goal.returns-then-at-sheet
returns-then-at-sheet c = let a = c.args in sym (one_end a.marks a.self.now a.sheet.now a.at c.if-at-sheet.true)

pub returns-then-b-eq10 : goal.returns-then-b-eq10
returns-then-b-eq10 c = one_lf _ _ _ _ (omega arith) c.if-b-eq10.true

pub returns-then-j-k : goal.returns-then-j-k
returns-then-j-k c =
    ap (λ (x : ℕ). Ok (Some x, c.args.at + 1)) c.only.ensures ∙ one_single _ (record { within = omega arith; on = c.if-b-eq10.false; number = c.number-j.ensures }) (omega arith)

pub returns-in-42 : goal.returns-in-42
returns-in-42 c =
    ap (λ (x : ℕ). Ok (Some x, c.args.at + 1)) (c.all.ensures ∙ ap (λ (k : ℕ). 2 ^ k - 1) c.requires.0)
    ∙ one_star _ (record { within = omega arith; on = c.if-b-eq10.false; number = c.number-j.ensures }) (omega arith) c.in-42.is (omega arith)

pub returns-in_err-set-in-91 : goal.returns-in_err-set-in-91
returns-in_err-set-in-91 c =
    let p = err_from_is_err_and c.from_residual.result c.from_residual.ensures.1 in
    rw (p.1, p.2)
    (ap one_of c.in_err-set-in-91.ensures ∙ one_open _ (record { within = omega arith; on = c.if-b-eq10.false; number = c.number-j.ensures }) (omega arith) (λ z. omega arith) c.in-91.is (omega arith))

pub returns-in_ok-set-in-91 : goal.returns-in_ok-set-in-91
returns-in_ok-set-in-91 c =
    ap one_of c.in_ok-set-in-91.ensures ∙ one_open _ (record { within = omega arith; on = c.if-b-eq10.false; number = c.number-j.ensures }) (omega arith) (λ z. omega arith) c.in-91.is (omega arith)

pub returns-in-124 : goal.returns-in-124
returns-in-124 c =
    one_mark _ (record { within = omega arith; on = c.if-b-eq10.false; number = c.number-j.ensures }) (omega arith) (λ z. omega arith) (λ z. omega arith) c.in-124.is c.if-marks.true

pub returns-in_default : goal.returns-in_default
returns-in_default c = one_star_few _ (record { within = omega arith; on = c.if-b-eq10.false; number = c.number-j.ensures }) (omega arith) c.in-42.is (omega arith)

pub returns-in_default-2 : goal.returns-in_default-2
returns-in_default-2 c = one_few _ (record { within = omega arith; on = c.if-b-eq10.false; number = c.number-j.ensures }) (omega arith) (λ z. omega arith) c.in-91.is (omega arith)

pub returns-in_default-3 : goal.returns-in_default-3
returns-in_default-3 c =
    one_no_mark _ (record { within = omega arith; on = c.if-b-eq10.false; number = c.number-j.ensures }) (omega arith) (λ z. omega arith) (λ z. omega arith) c.in-124.is c.if-marks.false

pub returns-in_default-4 : goal.returns-in_default-4
returns-in_default-4 c = one_none _ (record { within = omega arith; on = c.if-b-eq10.false; number = c.number-j.ensures }) (omega arith) (λ z. omega arith) (λ z. omega arith) (λ z. omega arith)
