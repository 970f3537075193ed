-- What is left to gather gives the same.
use native.Mathlib.Omega.{arith}
use mathlib.Core.Path.{◌∙◌}
use Rattle.plan.specs.Shaped.{plan_of}
use Rattle.machine.specs.Plan.{count, taker_of}
use Rattle.schedule.proofs.Telling as telling
use Rattle.schedule.proofs.Chains as chains
use Rattle.schedule.proofs.Laws as laws
use Rattle.schedule.proofs.gather.Goals as goal

pub first-m-requires : goal.first-m-requires
first-m-requires c = (c.requires.mailed.0.chained, c.requires.mailed.1)

pub loop-m-init : goal.loop-m-init
loop-m-init c = laws.gather_start c.args.table.now.layout.sizes.route c.args.table.now.layout.nest c.args.t _ _ _ _ c.first-m.ensures

pub spot-place-requires : goal.spot-place-requires
spot-place-requires c = (c.requires.planned, omega (arith, c.loop-m-test.true, c.loop-m.invariant.gathering.long_status, c.requires.mailed.0.marks))

pub take_message-requires : goal.take_message-requires
take_message-requires c = record { sized = telling.found_self _ _ _ _ c.spot-place.ensures; memory_len = (c.loop-m.invariant.gathering.long ∙ c.requires.memory_len.0, c.requires.memory_len.1) }

pub next-m-requires : goal.next-m-requires
next-m-requires c =
    let loop-test = c.loop-m-test in
    let loop = c.loop-m in (
      c.requires.mailed.0.chained,
      (
        omega (arith, loop-test.true, loop.invariant.gathering.long_status, c.requires.mailed.0.marks),
        (
          omega (arith, loop-test.true, loop.invariant.gathering.long_status, c.requires.mailed.0.marks, c.requires.mailed.0.few),
          chains.walk_tile (taker_of (plan_of c.args.table.now.layout.sizes.route c.args.table.now.layout.nest)) (count (plan_of c.args.table.now.layout.sizes.route c.args.table.now.layout.nest)) c.args.t
              loop.invariant.j loop.m loop.invariant.spot (omega (arith, loop-test.true, loop.invariant.gathering.long_status, c.requires.mailed.0.marks)),
        ),
      ),
    )

pub loop-m-smaller : goal.loop-m-smaller
loop-m-smaller c =
    let loop-test = c.loop-m-test in
    let loop = c.loop-m in
    omega (
      arith,
      loop-test.true,
      loop.invariant.gathering.long_status,
      chains.walk_more (taker_of (plan_of c.args.table.now.layout.sizes.route c.args.table.now.layout.nest))
          (count (plan_of c.args.table.now.layout.sizes.route c.args.table.now.layout.nest)) c.args.t loop.invariant.j loop.m loop.invariant.spot
          (omega (arith, loop-test.true, loop.invariant.gathering.long_status, c.requires.mailed.0.marks)) _ c.next-m.ensures,
    )

pub loop-m-preserved : goal.loop-m-preserved
loop-m-preserved c =
    let loop = c.loop-m in
    let spot = c.spot-place in
    let take-message = c.take_message in
    laws.gather_next c.args.table.now.layout.sizes.route c.args.table.now.layout.nest c.args.t _ _ _ _ _ _ loop.invariant
    (omega (arith, c.loop-m-test.true, loop.invariant.gathering.long_status, c.requires.mailed.0.marks)) spot.result spot.ensures _
    take-message.auto.memory take-message.ensures _ c.next-m.ensures

pub returns : goal.returns
returns c =
    let loop = c.loop-m in
    laws.gather_done c.args.table.now.layout.sizes.route c.args.table.now.layout.nest c.args.t _ _ _ _ _ _ loop.invariant
    (omega (arith, c.loop-m-test.false, loop.invariant.gathering.long_status, c.requires.mailed.0.marks))
