-- No processor passed has tiles left.
use mathlib.Core.Path.{◌≡◌}
use mathlib.Core.Bool.{false}
use Rattle.base.specs.Tests.{some}
use Rattle.machine.specs.Machine.{tiles_left}
use Rattle.plan.specs.Shaped.{plan_of}
use Rattle.stages.specs.Progress.{progress_only}
use Rattle.stages.proofs.tiles_left.Given as goal

abbrev pub invariant-loop-b : goal.invariant-loop-b
invariant-loop-b l = some (tiles_left (plan_of l.table.layout.sizes.route l.table.layout.nest) (progress_only l.progress)) l.b ≡ false
