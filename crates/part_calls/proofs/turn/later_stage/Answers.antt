-- Stages 1 and 2 of the turn on the part.
use mathlib.Core.Path.{refl}
use Rattle.std.specs.Prelude.{length, get_or}
use Rattle.machine.specs.Plan.{tiles_of}
use Rattle.machine.specs.Machine.{state_of}
use Rattle.plan.specs.Shaped.{plan_of}
use Rattle.part_calls.proofs.turn.Stage as stage
use Rattle.part_calls.proofs.turn.Turned as turned
use Rattle.part_calls.proofs.turn.later_stage.Goals as goal

pub calculate_stage-requires : goal.calculate_stage-requires
calculate_stage-requires c =
    let A = c.args in record {
      tables = (c.requires.tables, c.requires.may_step.0.lengths.memory);
      tile_bound = (
        c.requires.may_step.1.0.low,
        (
          stage.stands_own (plan_of A.table.now.layout.sizes.route A.table.now.layout.nest) A.progress.now A.b
              A.tile c.requires.may_step.1.0,
          c.requires.may_step.1.0.few,
        ),
      );
      source_len = c.requires.may_step.0.own;
    }

pub returns-then-progress-eq1 : goal.returns-then-progress-eq1
returns-then-progress-eq1 c =
    let A = c.args in
    let calculate-stage = c.calculate_stage in
    let if1 = c.if-progress-eq1 in
    let p = plan_of A.table.now.layout.sizes.route A.table.now.layout.nest in
    let s = state_of A.memory.now A.mail.now A.progress.now A.marks.now in
    turned.calculates p A.b A.source.now s c.requires.may_step.0
    (get_or A.progress.now 0 0) (length (tiles_of p A.b)) refl refl A.tile (get_or A.progress.now 1 0) c.requires.may_step.1.0.left
    c.requires.may_step.1.0.tile refl if1.true _ (calculate-stage.ensures A.mail.now A.progress.now A.marks.now
    (record { memory = c.requires.may_step.0.lengths.memory; mail = c.requires.may_step.0.lengths.mail; marks = c.requires.may_step.0.lengths.marks })
    c.requires.may_step.0.lengths.progress refl)

pub send_stage-requires : goal.send_stage-requires
send_stage-requires c =
    let A = c.args in
    let if1 = c.if-progress-eq1 in
    let p = plan_of A.table.now.layout.sizes.route A.table.now.layout.nest in
    let s = state_of A.memory.now A.mail.now A.progress.now A.marks.now in record {
      tables = (c.requires.tables, record { memory = c.requires.may_step.0.lengths.memory; mail = c.requires.may_step.0.lengths.mail; marks = c.requires.may_step.0.lengths.marks });
      tile_bound = (c.requires.may_step.1.0.low, stage.stands_own p A.progress.now A.b A.tile c.requires.may_step.1.0);
      finished_bound = (
        c.requires.may_step.1.0.few,
        turned.sends_left p A.b A.source.now s c.requires.may_step.0 (get_or A.progress.now 0 0) (length (tiles_of p A.b)) refl refl
            A.tile (get_or A.progress.now 1 0) c.requires.may_step.1.0.left c.requires.may_step.1.0.tile refl _ refl
            c.requires.may_step.1.1 if1.false,
      );
    }

pub returns : goal.returns
returns c =
    let S = c in
    let A = S.args in
    let send-stage = c.send_stage in
    let if1 = c.if-progress-eq1 in
    let p = plan_of A.table.now.layout.sizes.route A.table.now.layout.nest in
    let s = state_of A.memory.now A.mail.now A.progress.now A.marks.now in
    turned.sends p A.b A.source.now s S.requires.may_step.0
    (get_or A.progress.now 0 0) (length (tiles_of p A.b)) refl refl A.tile (get_or A.progress.now 1 0) S.requires.may_step.1.0.left
    S.requires.may_step.1.0.tile refl _ refl S.requires.may_step.1.1 if1.false _
    (send-stage.ensures A.progress.now S.requires.may_step.0.lengths.progress refl refl)
