-- Each return is the machine's turn by the stage.
use Rattle.std.specs.Prelude.{◌≡◌, ℕ, ◌*◌, ◌<◌, length, get_or}
use mathlib.Core.Path.{refl, ap, ◌∙◌}
use native.Mathlib.Omega.{arith}
use Rattle.machine.specs.Plan.{tiles_of}
use Rattle.machine.specs.Machine.{state_of}
use Rattle.plan.specs.Shaped.{plan_of}
use Rattle.stages.specs.Progress.{set_record}
use Rattle.engine.proofs.Turns as turns
use Rattle.engine.proofs.inner.step.Goals as goal

pub returns-then-i-n : goal.returns-then-i-n
returns-then-i-n c =
    let A = c.args in
    turns.step_over (plan_of A.table.now.layout.sizes.route A.table.now.layout.nest) A.source.now
    (state_of A.memories.now A.buffer.now A.progress.now A.status.now) A.b c.requires.may_turn.fit c.requires.may_turn.processor
    (omega (arith, c.tile_count-n.ensures.0, c.if-i-n.true))

pub tile_at-t-requires : goal.tile_at-t-requires
tile_at-t-requires c = omega (arith, c.tile_count-n.ensures.0, c.if-i-n.false)

pub returns-then-not-ready : goal.returns-then-not-ready
returns-then-not-ready c =
    let A = c.args in
    turns.step_waits (plan_of A.table.now.layout.sizes.route A.table.now.layout.nest) A.source.now (state_of A.memories.now A.buffer.now
    A.progress.now A.status.now) A.b c.requires.may_turn.fit c.requires.may_turn.processor (omega (
      arith,
      c.tile_count-n.ensures.0,
      c.if-i-n.false,
    )) c.tile_at-t.result (c.tile_at-t.ensures.0
    ∙ ap (λ (k : ℕ). get_or (tiles_of (plan_of A.table.now.layout.sizes.route A.table.now.layout.nest) A.b) k 0) refl)
    c.ready.result c.if-stage-eq0.true c.ready.ensures c.if-not-ready.true

pub gather_stage-requires : goal.gather_stage-requires
gather_stage-requires c = let P = c.requires.may_turn.areas in record { sized = (c.requires.may_turn.processor, c.tile_at-t.ensures.1); memories_len = (P.memories, (P.buffer, P.status)) }

pub returns-then-stage-eq0 : goal.returns-then-stage-eq0
returns-then-stage-eq0 c =
    let A = c.args in
    let G = c.gather_stage in
    turns.step_gathers (plan_of A.table.now.layout.sizes.route A.table.now.layout.nest) A.source.now
    (state_of A.memories.now A.buffer.now A.progress.now A.status.now) A.b c.requires.may_turn.fit c.requires.may_turn.processor
    (omega (arith, c.tile_count-n.ensures.0, c.if-i-n.false)) c.tile_at-t.result
    (c.tile_at-t.ensures.0 ∙ ap (λ (k : ℕ). get_or (tiles_of (plan_of A.table.now.layout.sizes.route A.table.now.layout.nest) A.b) k 0) refl)
    c.ready.result (state_of G.new.memories A.buffer.now (set_record A.progress.now A.b G.result) G.new.status)
    c.if-stage-eq0.true c.ready.ensures c.if-not-ready.false (G.ensures A.progress.now refl)

pub calculate_stage-requires : goal.calculate_stage-requires
calculate_stage-requires c = let P = c.requires.may_turn.areas in record { sized = (c.requires.may_turn.processor, c.tile_at-t.ensures.1); source_len = (P.source, (P.memories, omega (arith, c.tile_count-n.ensures, c.if-i-n.false))) }

pub returns-then-stage-eq1 : goal.returns-then-stage-eq1
returns-then-stage-eq1 c =
    let A = c.args in
    let G = c.calculate_stage in
    turns.step_calculates (plan_of A.table.now.layout.sizes.route A.table.now.layout.nest)
    A.source.now (state_of A.memories.now A.buffer.now A.progress.now A.status.now) A.b c.requires.may_turn.fit c.requires.may_turn.processor
    (omega (arith, c.tile_count-n.ensures.0, c.if-i-n.false)) c.tile_at-t.result
    (c.tile_at-t.ensures.0 ∙ ap (λ (k : ℕ). get_or (tiles_of (plan_of A.table.now.layout.sizes.route A.table.now.layout.nest) A.b) k 0) refl)
    (state_of G.new.memories A.buffer.now (set_record A.progress.now A.b G.result) A.status.now) c.if-stage-eq1.true
    (G.ensures A.buffer.now A.progress.now A.status.now refl)

pub send_stage-requires : goal.send_stage-requires
send_stage-requires c =
    let P = c.requires.may_turn.areas in
    let A = c.args in
    let f : get_or A.progress.now (3 * A.b) 0 < length (tiles_of (plan_of A.table.now.layout.sizes.route A.table.now.layout.nest) A.b) =
    (omega (arith, c.tile_count-n.ensures.0, c.if-i-n.false)) in
    let t : c.tile_at-t.result ≡ get_or (tiles_of (plan_of A.table.now.layout.sizes.route A.table.now.layout.nest) A.b) (get_or A.progress.now (3 * A.b) 0) 0 =
    c.tile_at-t.ensures.0 ∙ ap (λ (k : ℕ). get_or (tiles_of (plan_of A.table.now.layout.sizes.route A.table.now.layout.nest) A.b) k 0) refl in
    record {
      sized = (c.requires.may_turn.processor, c.tile_at-t.ensures.1);
      memories_len = (P.memories, (P.buffer, P.status));
      finished_bound = (
        omega (arith, c.tile_count-n.ensures, f),
        rw t (turns.fit_sent (plan_of A.table.now.layout.sizes.route A.table.now.layout.nest)
            (state_of A.memories.now A.buffer.now A.progress.now A.status.now) A.b c.requires.may_turn.fit c.requires.may_turn.processor f
            c.if-stage-eq0.false
            c.if-stage-eq1.false),
      );
    }

pub returns : goal.returns
returns c =
    let A = c.args in
    let G = c.send_stage in
    turns.step_sends (plan_of A.table.now.layout.sizes.route A.table.now.layout.nest) A.source.now
    (state_of A.memories.now A.buffer.now A.progress.now A.status.now) A.b c.requires.may_turn.fit c.requires.may_turn.processor
    (omega (arith, c.tile_count-n.ensures.0, c.if-i-n.false)) c.tile_at-t.result
    (c.tile_at-t.ensures.0 ∙ ap (λ (k : ℕ). get_or (tiles_of (plan_of A.table.now.layout.sizes.route A.table.now.layout.nest) A.b) k 0) refl)
    (state_of A.memories.now G.new.buffer (set_record A.progress.now A.b G.result) G.new.status) c.if-stage-eq0.false
    c.if-stage-eq1.false (G.ensures A.progress.now refl refl)
