-- What is left to send gives the same.
use native.Mathlib.Omega.{arith}
use mathlib.Core.Path.{◌∙◌}
use Rattle.plan.specs.Shaped.{plan_of}
use Rattle.machine.specs.Plan.{count, sender_of}
use Rattle.schedule.proofs.Telling as telling
use Rattle.schedule.proofs.Chains as chains
use Rattle.schedule.proofs.Laws as laws
use Rattle.schedule.proofs.send.Goals as goal

pub first-m-requires : goal.first-m-requires
first-m-requires c = (c.requires.mailed.0.chained, c.requires.mailed.1)

pub loop-m-init : goal.loop-m-init
loop-m-init c = laws.send_start (plan_of c.args.table.now.layout.sizes.route c.args.table.now.layout.nest) c.args.t _ _ _ _ c.first-m.ensures

pub spot-place-requires : goal.spot-place-requires
spot-place-requires c = (c.requires.planned, omega (arith, c.loop-m-test.true, c.loop-m.invariant.marks, c.requires.mailed.0.marks))

pub put_message-requires : goal.put_message-requires
put_message-requires c = record { sized = telling.found_self _ _ _ _ c.spot-place.ensures; memory_len = (c.requires.memory_len.0, c.loop-m.invariant.long ∙ c.requires.memory_len.1) }

pub next-m-requires : goal.next-m-requires
next-m-requires c =
    let loop-test = c.loop-m-test in
    let loop = c.loop-m in (
      c.requires.mailed.0.chained,
      (
        omega (arith, loop-test.true, loop.invariant.marks, c.requires.mailed.0.marks),
        (
          omega (arith, loop-test.true, loop.invariant.marks, c.requires.mailed.0.marks, c.requires.mailed.0.few),
          chains.walk_tile (sender_of (plan_of c.args.table.now.layout.sizes.route c.args.table.now.layout.nest)) (count (plan_of c.args.table.now.layout.sizes.route c.args.table.now.layout.nest)) c.args.t
              loop.invariant.j loop.m loop.invariant.spot (omega (arith, loop-test.true, loop.invariant.marks, c.requires.mailed.0.marks)),
        ),
      ),
    )

pub loop-m-smaller : goal.loop-m-smaller
loop-m-smaller c =
    let loop-test = c.loop-m-test in
    let loop = c.loop-m in
    omega (
      arith,
      loop-test.true,
      loop.invariant.marks,
      chains.walk_more (sender_of (plan_of c.args.table.now.layout.sizes.route c.args.table.now.layout.nest))
          (count (plan_of c.args.table.now.layout.sizes.route c.args.table.now.layout.nest)) c.args.t loop.invariant.j loop.m loop.invariant.spot
          (omega (arith, loop-test.true, loop.invariant.marks, c.requires.mailed.0.marks)) _ c.next-m.ensures,
    )

pub loop-m-preserved : goal.loop-m-preserved
loop-m-preserved c =
    let loop = c.loop-m in
    let put-message = c.put_message in
    laws.send_next (plan_of c.args.table.now.layout.sizes.route c.args.table.now.layout.nest) c.args.t _ _ _ _ _ _ loop.invariant
    (omega (arith, c.loop-m-test.true, loop.invariant.marks, c.requires.mailed.0.marks)) _ c.spot-place.ensures.number _
    put-message.auto.buffer put-message.ensures _ c.next-m.ensures

pub returns : goal.returns
returns c =
    let loop = c.loop-m in
    laws.send_done (plan_of c.args.table.now.layout.sizes.route c.args.table.now.layout.nest) c.args.t _ _ _ _ _ _ loop.invariant
    (omega (arith, c.loop-m-test.false, loop.invariant.marks, c.requires.mailed.0.marks))
