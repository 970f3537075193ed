-- `inner::tell_awaited` meets its contract.
use native.Mathlib.Omega.{arith}
use Rattle.std.specs.Prelude.{ℕ, [], length, replicate}
use mathlib.Core.Path.{◌∙◌, ap}
use mathlib.Core.Logic.{inl, inr}
use Rattle.plan.specs.Shaped.{plan_of}
use Rattle.machine.specs.Machine.{state_of}
use Rattle.transport.proofs.Awaiting as waiting
use Rattle.transport.proofs.inner.tell_awaited.Goals as goal
use Rattle.transport.proofs.inner.tell_awaited.Goals.{then-stage-eq0, else-stage-eq0}

pub overflow_mul-i : goal.overflow_mul-i
overflow_mul-i c = omega (arith, waiting.few_processors c.args.table.now.layout.nest c.args.table.now.layout.sizes c.args.table.now.layout.sized c.args.b c.requires.may_ask.processor)

pub offset_bounds-progress-b : goal.offset_bounds-progress-b
offset_bounds-progress-b c = omega (arith, waiting.few_processors c.args.table.now.layout.nest c.args.table.now.layout.sizes c.args.table.now.layout.sized c.args.b c.requires.may_ask.processor)

pub bounds-progress-b : goal.bounds-progress-b
bounds-progress-b c = omega (arith, c.requires.may_ask.progress, c.requires.may_ask.processor)

pub overflow_mul-stage : goal.overflow_mul-stage
overflow_mul-stage c = omega (arith, waiting.few_processors c.args.table.now.layout.nest c.args.table.now.layout.sizes c.args.table.now.layout.sized c.args.b c.requires.may_ask.processor)

pub overflow_add-stage : goal.overflow_add-stage
overflow_add-stage c = omega (arith, waiting.few_processors c.args.table.now.layout.nest c.args.table.now.layout.sizes c.args.table.now.layout.sized c.args.b c.requires.may_ask.processor)

pub offset_bounds-progress-b-2 : goal.offset_bounds-progress-b-2
offset_bounds-progress-b-2 c = omega (arith, waiting.few_processors c.args.table.now.layout.nest c.args.table.now.layout.sizes c.args.table.now.layout.sized c.args.b c.requires.may_ask.processor)

pub bounds-progress-b-2 : goal.bounds-progress-b-2
bounds-progress-b-2 c = omega (arith, c.requires.may_ask.progress, c.requires.may_ask.processor)

pub returns-then-i-n : goal.returns-then-i-n
returns-then-i-n c =
    waiting.none_left (plan_of c.args.table.now.layout.sizes.route c.args.table.now.layout.nest) (state_of [] [] c.args.progress.now c.args.status.now) c.args.b
    c.args.marks.now
    (omega (arith, c.if-i-n.true, c.tile_count-n.ensures.0))

pub tile_at-tile-requires : goal.tile_at-tile-requires
tile_at-tile-requires c = omega (arith, c.if-i-n.false, c.tile_count-n.ensures.0)

pub mark_undelivered-requires : goal.mark_undelivered-requires
mark_undelivered-requires c = record { planned = c.tile_at-tile.ensures.1; status_len = (c.requires.may_ask.status, c.fill.ensures.after (λ y e. e) ∙ ap (λ (n : ℕ). replicate n 0) c.requires.may_ask.long) }

pub overflow_cast-result : goal.overflow_cast-result
overflow_cast-result c =
    omega (
      arith,
      c.tile_at-tile.ensures.1,
      waiting.few_tiles c.args.table.now.layout.sizes.route c.args.table.now.layout.nest c.args.table.now.layout.sized.accepted,
    )

pub shape_of-marks : goal.shape_of-marks
shape_of-marks c =
    let fill = c.fill in
    elim c.if-stage-eq0.branch [ then-stage-eq0 w ↦ ap length w.marks-is ∙ w.mark_undelivered.auto.marks ∙ fill.auto.self | else-stage-eq0 w ↦ ap length w.marks-is ∙ fill.auto.self ]

pub returns : goal.returns
returns c =
    let tile-at = c.tile_at-tile in
    waiting.told (plan_of c.args.table.now.layout.sizes.route c.args.table.now.layout.nest) (state_of [] [] c.args.progress.now c.args.status.now) c.args.b
    c.args.marks.now tile-at.result c.if-stage-eq0.marks
    (omega (arith, c.if-i-n.false, c.tile_count-n.ensures.0))
    tile-at.ensures.0
    (elim c.if-stage-eq0.branch [
      | then-stage-eq0 w ↦ inl (w.if-stage-eq0.true, w.marks-is ∙ w.mark_undelivered.ensures)
      | else-stage-eq0 w ↦ inr (
        w.if-stage-eq0.false,
        w.marks-is ∙ c.fill.ensures.after (λ y e. e) ∙ ap (λ (n : ℕ). replicate n 0)
            c.requires.may_ask.long,
      )
    ])
