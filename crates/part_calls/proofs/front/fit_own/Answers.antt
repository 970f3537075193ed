-- `part_calls::front::fit_own` meets its contract: the record's test line by line.
use mathlib.Core.Path.{◌∙◌}
use native.Mathlib.Omega.{arith}
use Rattle.std.proofs.lemmas.Bool.Decides.{nat_tests}
use Rattle.std.proofs.lemmas.Grind.{common_steps}
use Rattle.base.specs.Tests.{pick, ◌and◌}
use Rattle.machine.specs.Machine.{tiles_left, fit_record}
use Rattle.tables.specs.Given.{plan_of_table}
use Rattle.stages.proofs.Stages as stages
use Rattle.part_calls.proofs.front.Front as front
use Rattle.part_calls.proofs.front.fit_own.Goals as goal
use Rattle.part_calls.proofs.front.fit_own.Goals.{then-f-n-2, else-f-n-2}

pub returns-then-stage-eq2 : goal.returns-then-stage-eq2
returns-then-stage-eq2 c =
    let A = c.args in
    let tile-at = c.tile_at-tile in
    λ s f g n. stages.record_sends (plan_of_table A.table.now) s.progress A.b _ c.tile_count-n.result A.stage _ f c.tile_count-n.ensures.0 g n
    tile-at.result c.count_at.result c.if-f-n.true c.if-stage-eq2.true tile-at.ensures.0 c.count_at.ensures.0 ∙ front.record_only (plan_of_table A.table.now) s A.b

pub returns-then-stage-lt2 : goal.returns-then-stage-lt2
returns-then-stage-lt2 c =
    let A = c.args in
    λ s f g n. stages.record_begins (plan_of_table A.table.now) s.progress A.b _ c.tile_count-n.result A.stage _ f c.tile_count-n.ensures.0 g n
    c.if-f-n.true c.if-stage-eq2.false (omega (arith, c.if-stage-lt2.true)) ∙ front.record_only (plan_of_table A.table.now) s A.b

pub returns-else-stage-lt2 : goal.returns-else-stage-lt2
unfolding fit_record tiles_left pick ◌and◌
returns-else-stage-lt2 c = λ s f g n. grind (arith, nat_tests, common_steps, c.tile_count-n.ensures.0, f, g, n)

pub returns-then-stage-eq0 : goal.returns-then-stage-eq0
unfolding fit_record tiles_left pick ◌and◌
returns-then-stage-eq0 c =
    λ s f g n. elim c.if-f-n-2.branch [
      | then-f-n-2 w ↦ grind (arith, nat_tests, common_steps, c.tile_count-n.ensures.0, f, g, n)
      | else-f-n-2 w ↦ grind (arith, nat_tests, common_steps, f, g, n)
    ]

pub returns-else-stage-eq0 : goal.returns-else-stage-eq0
unfolding fit_record tiles_left pick ◌and◌
returns-else-stage-eq0 c =
    λ s f g n. elim c.if-f-n-2.branch [
      | then-f-n-2 w ↦ grind (arith, nat_tests, common_steps, c.tile_count-n.ensures.0, f, g, n)
      | else-f-n-2 w ↦ grind (arith, nat_tests, common_steps, f, g, n)
    ]
