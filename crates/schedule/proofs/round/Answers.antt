-- The processors' tiles so far; then the mail.
use native.Mathlib.Omega.{arith}
use Rattle.machine.specs.Machine.{state_of}
use Rattle.plan.specs.Shaped.{plan_of}
use Rattle.nest.specs.Nest.{processors}
use Rattle.schedule.proofs.Laws as laws
use Rattle.schedule.proofs.round.Goals as goal

pub loop-b-init : goal.loop-b-init
loop-b-init c =
    laws.tiles_start (plan_of c.args.table.now.layout.sizes.route c.args.table.now.layout.nest) c.args.source.now
    (state_of c.args.memories.now c.args.buffer.now c.args.progress.now c.args.status.now) c.args.table.now.layout.sizes.processors

pub next_tile-requires : goal.next_tile-requires
next_tile-requires c =
    let loop = c.loop-b in record {
      indexed = (c.requires.indexed.0, (c.requires.indexed.1, omega (arith, c.loop-b-test.true, c.args.table.now.layout.sized.processors)));
      plan_areas = laws.tiles_lent (plan_of c.args.table.now.layout.sizes.route c.args.table.now.layout.nest) c.args.source.now (state_of c.args.memories.now c.args.buffer.now
          c.args.progress.now c.args.status.now) (state_of loop.memories loop.buffer loop.progress loop.status)
          c.args.table.now.layout.sizes.processors
          loop.b loop.invariant c.requires.plan_areas;
    }

pub loop-b-preserved : goal.loop-b-preserved
loop-b-preserved c =
    let loop = c.loop-b in
    let loop-test = c.loop-b-test in
    let next_tile = c.next_tile in
    laws.tiles_next (plan_of c.args.table.now.layout.sizes.route c.args.table.now.layout.nest) c.args.source.now (state_of c.args.memories.now c.args.buffer.now
    c.args.progress.now c.args.status.now) (state_of loop.memories loop.buffer loop.progress loop.status) c.args.table.now.layout.sizes.processors
    loop.b loop.invariant loop-test.true _ next_tile.auto.memories next_tile.auto.buffer
    next_tile.auto.progress next_tile.auto.status next_tile.ensures

pub returns : goal.returns
returns c =
    let deliver-mail = c.deliver_mail in
    let loop = c.loop-b in
    let p = plan_of c.args.table.now.layout.sizes.route c.args.table.now.layout.nest in
    let s = state_of c.args.memories.now c.args.buffer.now c.args.progress.now c.args.status.now in
    let x = state_of loop.memories loop.buffer loop.progress loop.status in
    laws.round_done p c.args.source.now s x deliver-mail.new.status
    (laws.tiles_done p c.args.source.now s x c.args.table.now.layout.sizes.processors loop.b loop.invariant c.loop-b-test.false (processors c.args.table.now.layout.nest)
    c.args.table.now.layout.sized.processors) deliver-mail.ensures
