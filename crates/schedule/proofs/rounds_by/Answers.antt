-- The rounds so far; as many as the driver tells when no processor has tiles left.
use native.Mathlib.Omega.{arith}
use mathlib.Core.Path.{sym, ◌∙◌}
use Rattle.machine.specs.Machine.{state_of}
use Rattle.plan.specs.Shaped.{plan_of}
use Rattle.plan.proofs.ShapedSound.{sound}
use Rattle.schedule.proofs.Laws as laws
use Rattle.schedule.proofs.rounds_by.Goals as goal

pub loop-memories-init : goal.loop-memories-init
loop-memories-init c =
    laws.rounds_start (plan_of c.args.table.now.layout.sizes.route c.args.table.now.layout.nest)
    (sound c.args.table.now.layout.sizes.route c.args.table.now.layout.nest c.args.table.now.layout.sized.accepted) c.args.source.now
    (state_of c.args.memories.now c.args.buffer.now c.args.progress.now c.args.status.now) c.requires.status_value

pub tiles_left-requires : goal.tiles_left-requires
tiles_left-requires c =
    let loop = c.loop-memories in
    (laws.rounds_lent (plan_of c.args.table.now.layout.sizes.route c.args.table.now.layout.nest)
    (sound c.args.table.now.layout.sizes.route c.args.table.now.layout.nest c.args.table.now.layout.sized.accepted) c.args.source.now
    (state_of c.args.memories.now c.args.buffer.now c.args.progress.now c.args.status.now)
    (state_of loop.memories loop.buffer loop.progress loop.status) loop.done loop.invariant).progress

pub round-requires : goal.round-requires
round-requires c =
    let loop = c.loop-memories in record {
      indexed = c.requires.indexed;
      plan_areas = laws.rounds_lent (plan_of c.args.table.now.layout.sizes.route c.args.table.now.layout.nest)
          (sound c.args.table.now.layout.sizes.route c.args.table.now.layout.nest c.args.table.now.layout.sized.accepted) c.args.source.now
          (state_of c.args.memories.now c.args.buffer.now c.args.progress.now c.args.status.now)
          (state_of loop.memories loop.buffer loop.progress loop.status) loop.done loop.invariant;
    }

pub overflow_add-done : goal.overflow_add-done
overflow_add-done c =
    let loop = c.loop-memories in
    let tiles_left = c.tiles_left in
    let if1 = c.loop-memories-test in
    omega (
      arith,
      laws.rounds_more (plan_of c.args.table.now.layout.sizes.route c.args.table.now.layout.nest) (sound c.args.table.now.layout.sizes.route c.args.table.now.layout.nest
          c.args.table.now.layout.sized.accepted) c.args.source.now (state_of c.args.memories.now c.args.buffer.now c.args.progress.now
          c.args.status.now) (state_of loop.memories loop.buffer loop.progress loop.status) loop.done loop.invariant
          (sym tiles_left.ensures ∙ if1.true),
      laws.rounds_few (plan_of c.args.table.now.layout.sizes.route c.args.table.now.layout.nest) (sound c.args.table.now.layout.sizes.route c.args.table.now.layout.nest
          c.args.table.now.layout.sized.accepted) c.args.source.now (state_of c.args.memories.now c.args.buffer.now c.args.progress.now
          c.args.status.now),
      laws.tiles_low c.args.table.now.layout.sizes.route c.args.table.now.layout.nest c.args.table.now.layout.sized.accepted,
    )

pub loop-memories-smaller : goal.loop-memories-smaller
loop-memories-smaller c =
    let loop = c.loop-memories in
    let tiles_left = c.tiles_left in
    let if1 = c.loop-memories-test in
    omega (
      arith,
      laws.rounds_more (plan_of c.args.table.now.layout.sizes.route c.args.table.now.layout.nest) (sound c.args.table.now.layout.sizes.route c.args.table.now.layout.nest
          c.args.table.now.layout.sized.accepted) c.args.source.now (state_of c.args.memories.now c.args.buffer.now c.args.progress.now
          c.args.status.now) (state_of loop.memories loop.buffer loop.progress loop.status) loop.done loop.invariant
          (sym tiles_left.ensures ∙ if1.true),
    )

pub loop-memories-preserved : goal.loop-memories-preserved
loop-memories-preserved c =
    let loop = c.loop-memories in
    let tiles_left = c.tiles_left in
    let if1 = c.loop-memories-test in
    let round = c.round in
    laws.rounds_next (plan_of c.args.table.now.layout.sizes.route c.args.table.now.layout.nest) (sound c.args.table.now.layout.sizes.route c.args.table.now.layout.nest c.args.table.now.layout.sized.accepted)
    c.args.source.now (state_of c.args.memories.now c.args.buffer.now c.args.progress.now c.args.status.now)
    (state_of loop.memories loop.buffer loop.progress loop.status) loop.done loop.invariant
    (laws.rounds_more (plan_of c.args.table.now.layout.sizes.route c.args.table.now.layout.nest) (sound c.args.table.now.layout.sizes.route c.args.table.now.layout.nest c.args.table.now.layout.sized.accepted)
    c.args.source.now (state_of c.args.memories.now c.args.buffer.now c.args.progress.now c.args.status.now)
    (state_of loop.memories loop.buffer loop.progress loop.status) loop.done loop.invariant (sym tiles_left.ensures ∙ if1.true)) _
    round.auto.memories round.auto.buffer round.auto.progress
    round.auto.status round.ensures

pub returns : goal.returns
returns c =
    let loop = c.loop-memories in
    laws.rounds_over (plan_of c.args.table.now.layout.sizes.route c.args.table.now.layout.nest) (sound c.args.table.now.layout.sizes.route c.args.table.now.layout.nest
    c.args.table.now.layout.sized.accepted) c.args.source.now (state_of c.args.memories.now c.args.buffer.now c.args.progress.now
    c.args.status.now) (state_of loop.memories loop.buffer loop.progress loop.status) loop.done loop.invariant
    (sym c.tiles_left.ensures ∙ c.loop-memories-test.false)
