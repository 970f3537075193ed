-- 13, or the stage of the turn on the part.
use mathlib.Core.Path.{refl}
use native.Mathlib.Omega.{arith}
use Rattle.machine.specs.Machine.{state_of}
use Rattle.plan.specs.Shaped.{plan_of}
use Rattle.part_calls.proofs.turn.Stage as stage
use Rattle.part_calls.proofs.turn.Turned as turned
use Rattle.part_calls.proofs.turn.step.Goals as goal

pub returns-then-finished-tile_count : goal.returns-then-finished-tile_count
returns-then-finished-tile_count c =
    let A = c.args in
    let tile-count = c.tile_count in
    let if1 = c.if-finished-tile_count in
    let p = plan_of A.table.now.layout.sizes.route A.table.now.layout.nest in
    let s = state_of A.memory.now A.mail.now A.progress.now A.marks.now in
    turned.stops_over p A.b A.source.now s c.requires.may_step _ tile-count.result refl tile-count.ensures.0 if1.true

pub tile_at-tile-requires : goal.tile_at-tile-requires
tile_at-tile-requires c =
    let tile-count = c.tile_count in
    let if1 = c.if-finished-tile_count in
    omega (arith, tile-count.ensures.0, if1.false)

pub first_stage-requires : goal.first_stage-requires
first_stage-requires c =
    let A = c.args in
    let tile-at = c.tile_at-tile in
    let tile-count = c.tile_count in
    let if1 = c.if-finished-tile_count in
    let p = plan_of A.table.now.layout.sizes.route A.table.now.layout.nest in record {
      tables = c.requires.tables;
      part_lengths = (
        c.requires.may_step.lengths,
        stage.stands p A.progress.now A.b tile-at.result _ tile-count.result
            refl tile-count.ensures if1.false tile-at.ensures.0 tile-at.ensures.1,
      );
    }

pub returns-then-progress-eq0 : goal.returns-then-progress-eq0
returns-then-progress-eq0 c =
    let first-stage = c.first_stage in
    let S = c in
    let A = S.args in
    let if2 = c.if-progress-eq0 in
    first-stage.ensures A.source.now S.requires.may_step if2.true

pub later_stage-requires : goal.later_stage-requires
later_stage-requires c =
    let A = c.args in
    let tile-at = c.tile_at-tile in
    let tile-count = c.tile_count in
    let if1 = c.if-finished-tile_count in
    let if2 = c.if-progress-eq0 in
    let p = plan_of A.table.now.layout.sizes.route A.table.now.layout.nest in record {
      tables = c.requires.tables;
      may_step = (
        c.requires.may_step,
        (
          stage.stands p A.progress.now A.b tile-at.result _ tile-count.result refl
              tile-count.ensures if1.false tile-at.ensures.0 tile-at.ensures.1,
          if2.false,
        ),
      );
    }

pub returns : goal.returns
returns c = c.later_stage.ensures
