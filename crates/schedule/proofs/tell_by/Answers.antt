-- The tiles so far.
use native.Mathlib.Omega.{arith}
use Rattle.plan.specs.Shaped.{plan_of}
use Rattle.schedule.proofs.Telling as telling
use Rattle.schedule.proofs.tell_by.Goals as goal

pub loop-tile-init : goal.loop-tile-init
loop-tile-init c = telling.table_start (plan_of c.args.table.now.layout.sizes.route c.args.table.now.layout.nest) c.args.rounds.now c.requires.1 c.args.table.now.layout.sized.accepted.processors_most

pub processor_at-b-requires : goal.processor_at-b-requires
processor_at-b-requires c = omega (arith, c.loop-tile-test.true, c.loop-tile.invariant.tells.long)

pub round_at-round-requires : goal.round_at-round-requires
round_at-round-requires c =
    let loop = c.loop-tile in
    let processor-at = c.processor_at-b in record {
      dued = (c.requires.0, omega (arith, c.loop-tile-test.true, loop.invariant.tells.long));
      tells_to = (
        loop.invariant.tells,
        telling.last_is (plan_of c.args.table.now.layout.sizes.route c.args.table.now.layout.nest) loop.lasts loop.tile processor-at.result
            loop.invariant.last processor-at.ensures.0 processor-at.ensures.1,
      );
    }

pub loop-tile-preserved : goal.loop-tile-preserved
loop-tile-preserved c =
    let loop = c.loop-tile in
    let processor-at = c.processor_at-b in
    let round-at = c.round_at-round in
    telling.table_next (plan_of c.args.table.now.layout.sizes.route c.args.table.now.layout.nest) c.args.rounds.now loop.rounds loop.lasts loop.tile loop.invariant
    c.args.table.now.layout.sized.accepted.processors_most (omega (arith, c.loop-tile-test.true, loop.invariant.tells.long)) processor-at.result
    processor-at.ensures.0 processor-at.ensures.1 round-at.result round-at.ensures

pub returns : goal.returns
returns c =
    let loop = c.loop-tile in
    telling.tells_done (plan_of c.args.table.now.layout.sizes.route c.args.table.now.layout.nest) loop.rounds loop.tile (omega (arith, loop.invariant.long)) loop.invariant.tells
