-- All records passed are fit.
use mathlib.Core.Path.{sym, ◌∙◌}
use native.Mathlib.Omega.{arith}
use Rattle.base.proofs.Tests.{every_not}
use Rattle.base.proofs.Loops as loops
use Rattle.stages.proofs.fit_records.Goals as goal

pub loop-b-init : goal.loop-b-init
loop-b-init c = loops.every_start _

pub returns-then-not-fit_record : goal.returns-then-not-fit_record
returns-then-not-fit_record c =
    sym (every_not _ _ c.loop-b.b (omega (arith, c.args.table.now.layout.sized.processors)) (sym c.fit_record.ensures ∙ c.if-not-fit_record.true))

pub loop-b-preserved : goal.loop-b-preserved
loop-b-preserved c = loops.every_step _ c.loop-b.b c.loop-b.invariant (sym c.fit_record.ensures ∙ c.if-not-fit_record.false)
