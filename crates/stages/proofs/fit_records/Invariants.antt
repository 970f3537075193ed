-- All records passed are fit.
use mathlib.Core.Path.{◌≡◌}
use mathlib.Core.Bool.{true}
use Rattle.base.specs.Tests.{every}
use Rattle.machine.specs.Machine.{fit_record}
use Rattle.plan.specs.Shaped.{plan_of}
use Rattle.stages.specs.Progress.{progress_only}
use Rattle.stages.proofs.fit_records.Given as goal

abbrev pub invariant-loop-b : goal.invariant-loop-b
invariant-loop-b l = every (fit_record (plan_of l.table.layout.sizes.route l.table.layout.nest) (progress_only l.progress)) l.b ≡ true
