-- `printed::of_front` meets its contract: what the report call answered picks the case. Assumes nothing.
use Rattle.printed.proofs.LineLaws.{front_report, front_refusal}
use Rattle.printed.proofs.of_front.Goals as goal

pub returns-in-Ok-clause-promise : goal.returns-in-Ok-clause-promise
returns-in-Ok-clause-promise c =
    let e = rw c.in-Ok.is at c.of_sheet.ensures in
    front_report _ _ _ _ _ c.args.sheet.now c.args.out.now c.args.n _ c.min-read.ensures c.requires _ _ e.promise e.enough

pub returns-in-Err-clause-promise : goal.returns-in-Err-clause-promise
returns-in-Err-clause-promise c =
    let e = rw c.in-Err.is at c.of_sheet.ensures in
    front_refusal _ _ _ _ _ c.args.sheet.now c.args.out.now c.args.n _ c.min-read.ensures c.requires _ _ _ _ e.promise e.enough c.put_refusal.ensures.0 c.put_refusal.ensures.1
