-- What is left to look at decides.
use native.Mathlib.Omega.{arith}
use Rattle.plan.specs.Shaped.{plan_of}
use Rattle.machine.specs.Plan.{count, taker_of}
use Rattle.schedule.proofs.Chains as chains
use Rattle.schedule.proofs.Laws as laws
use Rattle.schedule.proofs.ready.Goals as goal

pub first-m-requires : goal.first-m-requires
first-m-requires c = (c.requires.0.chained, c.requires.1)

pub loop-m-init : goal.loop-m-init
loop-m-init c = laws.ready_start (plan_of c.args.layout.now.sizes.route c.args.layout.now.nest) c.args.t _ _ c.first-m.ensures

pub returns-then-status-m-ne2 : goal.returns-then-status-m-ne2
returns-then-status-m-ne2 c =
    let loop = c.loop-m in
    laws.ready_no (plan_of c.args.layout.now.sizes.route c.args.layout.now.nest) c.args.t _ _ loop.invariant
    (omega (arith, c.loop-m-test.true, c.requires.0.marks)) c.if-status-m-ne2.true

pub next-m-requires : goal.next-m-requires
next-m-requires c =
    let loop-test = c.loop-m-test in
    let loop = c.loop-m in (
      c.requires.0.chained,
      (
        omega (arith, loop-test.true, c.requires.0.marks),
        (
          omega (arith, loop-test.true, c.requires.0.marks, c.requires.0.few),
          chains.walk_tile (taker_of (plan_of c.args.layout.now.sizes.route c.args.layout.now.nest))
              (count (plan_of c.args.layout.now.sizes.route c.args.layout.now.nest)) c.args.t loop.invariant.j loop.m loop.invariant.spot
              (omega (arith, loop-test.true, c.requires.0.marks)),
        ),
      ),
    )

pub loop-m-smaller : goal.loop-m-smaller
loop-m-smaller c =
    let loop-test = c.loop-m-test in
    let loop = c.loop-m in
    omega (
      arith,
      loop-test.true,
      chains.walk_more (taker_of (plan_of c.args.layout.now.sizes.route c.args.layout.now.nest))
          (count (plan_of c.args.layout.now.sizes.route c.args.layout.now.nest)) c.args.t loop.invariant.j loop.m loop.invariant.spot
          (omega (arith, loop-test.true, c.requires.0.marks)) _ c.next-m.ensures,
    )

pub loop-m-preserved : goal.loop-m-preserved
loop-m-preserved c =
    let loop = c.loop-m in
    laws.ready_next (plan_of c.args.layout.now.sizes.route c.args.layout.now.nest) c.args.t _ _ loop.invariant
    (omega (arith, c.loop-m-test.true, c.requires.0.marks)) c.if-status-m-ne2.false _ c.next-m.ensures

pub returns : goal.returns
returns c =
    let loop = c.loop-m in
    laws.ready_done (plan_of c.args.layout.now.sizes.route c.args.layout.now.nest) c.args.t _ _ loop.invariant (omega (arith, c.loop-m-test.false, c.requires.0.marks))
