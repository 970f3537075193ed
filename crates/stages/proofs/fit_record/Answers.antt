use mathlib.Core.Path.{refl}
use native.Mathlib.Omega.{arith}
use Rattle.std.proofs.lemmas.Bool.Decides.{nat_tests}
use Rattle.std.proofs.lemmas.Grind.{common_steps}
use Rattle.base.specs.Tests.{pick, ◌and◌}
use Rattle.machine.specs.Machine.{tiles_left, fit_record}
use Rattle.plan.specs.Shaped.{plan_of}
use Rattle.stages.proofs.Stages as stages
use Rattle.stages.proofs.fit_record.Goals as goal
use Rattle.stages.proofs.fit_record.Goals.{then-finished-n-2, else-finished-n-2}

pub returns-then-stage-eq2 : goal.returns-then-stage-eq2
returns-then-stage-eq2 c =
    stages.record_sends (plan_of c.args.table.now.layout.sizes.route c.args.table.now.layout.nest) c.args.progress.now c.args.processor _ _ _ _ refl c.tile_count-n.ensures.0 refl refl
    c.tile_at-tile.result c.count_at.result c.if-finished-n.true c.if-stage-eq2.true c.tile_at-tile.ensures.0 c.count_at.ensures.0

pub returns-then-stage-lt2 : goal.returns-then-stage-lt2
returns-then-stage-lt2 c =
    stages.record_begins (plan_of c.args.table.now.layout.sizes.route c.args.table.now.layout.nest) c.args.progress.now c.args.processor _ _ _ _ refl c.tile_count-n.ensures.0 refl refl
    c.if-finished-n.true c.if-stage-eq2.false (omega (arith, c.if-stage-lt2.true))

pub returns-else-stage-lt2 : goal.returns-else-stage-lt2
unfolding fit_record tiles_left pick ◌and◌
returns-else-stage-lt2 c = grind (arith, nat_tests, common_steps, c.tile_count-n.ensures.0)

pub returns-then-stage-eq0 : goal.returns-then-stage-eq0
unfolding fit_record tiles_left pick ◌and◌
returns-then-stage-eq0 c =
    elim c.if-finished-n-2.branch [ then-finished-n-2 w ↦ grind (arith, nat_tests, common_steps, c.tile_count-n.ensures.0) | else-finished-n-2 w ↦ grind (arith, nat_tests, common_steps) ]

pub returns-else-stage-eq0 : goal.returns-else-stage-eq0
unfolding fit_record tiles_left pick ◌and◌
returns-else-stage-eq0 c =
    elim c.if-finished-n-2.branch [ then-finished-n-2 w ↦ grind (arith, nat_tests, common_steps, c.tile_count-n.ensures.0) | else-finished-n-2 w ↦ grind (arith, nat_tests, common_steps) ]
