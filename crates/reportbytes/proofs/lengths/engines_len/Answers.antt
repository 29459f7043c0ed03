-- `reportbytes::lengths::engines_len` meets its contract. Assumes nothing.
use Prim.Native.Nat.{◌+◌}
use mathlib.Core.Path.{ap}
use mathlib.Core.List.{map}
use native.Mathlib.Omega.{arith}
use borrow.Author.Rules.{rules}
use lib.ListN.{length, get_or, drop, length-append}
use Rattle.engines.specs.declared.engine.Engine.TheVariants.{Brute}
use Rattle.engines.specs.Engines.{the_six}
use Rattle.engines.proofs.EngineLaws.{name_short}
use Rattle.reportbytes.specs.Values.{run_in}
use Rattle.reportbytes.specs.Bytes.{engine_lines}
use Rattle.reportbytes.proofs.LineLaws.{engine_length, line_at, engines_on, engines_end}
use Rattle.reportbytes.proofs.lengths.engines_len.Goals as goal

pub loop-i-preserved : goal.loop-i-preserved
loop-i-preserved c =
    let works = c.args.works.now in
    let i = c.loop-i.i in
    let e = get_or the_six i Brute in
    let r = run_in (get_or works i (record { total = 0; scan = 0; shift = 0; steps = 0 })) in
    let q = engines_on works i (omega arith) (search rules) in
    record {
      small = omega (arith, c.name_len.ensures, name_short e, c.counts_len.ensures.1, c.loop-i.invariant.small);
      whole = omega (arith, c.loop-i.invariant.whole, c.name_len.ensures, c.counts_len.ensures.0, engine_length e r, ap length q, length-append (line_at works i) (engine_lines (drop (i + 1) the_six) (drop (i + 1) (map run_in works))));
    }

pub returns : goal.returns
returns c =
    let v = c.loop-i.invariant in
    (omega (arith, v.whole, ap length (engines_end c.args.works.now c.loop-i.i (omega arith))), omega (arith, v.small))
