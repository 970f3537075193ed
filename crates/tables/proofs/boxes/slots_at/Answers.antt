-- `tables::boxes::slots_at` meets its contract: those of the first ways.
use native.Mathlib.Omega.{arith}
use Rattle.layout.proofs.Steps.{ways_few}
use Rattle.layout.proofs.Steps.{ways_few}
use Rattle.tables.proofs.boxes.Scans as L
use Rattle.tables.proofs.boxes.Ends as E
use Rattle.tables.proofs.boxes.slots_at.Goals as goal

pub overflow_mul-none : goal.overflow_mul-none
overflow_mul-none c = omega (arith, L.slots_small _ _ c.args.layout.now.sized c.requires.plain)

pub loop-way-init : goal.loop-way-init
loop-way-init c = E.ending_none c.args.layout.now.sizes.route _ _ _ _ (omega arith)

pub slot_at-requires : goal.slot_at-requires
slot_at-requires c = (c.requires, omega (arith, c.loop-way-test.true, c.args.layout.now.sized.ways))

pub offset_bounds-ends-way : goal.offset_bounds-ends-way
offset_bounds-ends-way c = omega (arith, c.loop-way.invariant.low, ways_few _ c.args.layout.now.sized.accepted c.args.layout.now.sizes.route)

pub bounds-ends-way : goal.bounds-ends-way
bounds-ends-way c = omega (arith, c.loop-way.invariant.low, ways_few _ c.args.layout.now.sized.accepted c.args.layout.now.sizes.route)

pub overflow_step-way : goal.overflow_step-way
overflow_step-way c = omega (arith, c.loop-way.invariant.low, ways_few _ c.args.layout.now.sized.accepted c.args.layout.now.sizes.route)

pub loop-way-smaller : goal.loop-way-smaller
loop-way-smaller c = omega (arith, c.loop-way-test.true)

pub loop-way-preserved : goal.loop-way-preserved
loop-way-preserved c =
    E.ending_more c.args.layout.now.sizes.route _ _ _ _ _ _ c.loop-way.invariant
    (omega (arith, c.loop-way-test.true, c.args.layout.now.sized.ways))
    (omega (arith, ways_few _ c.args.layout.now.sized.accepted c.args.layout.now.sizes.route))
    (let e = c.unwrap_or.ensures in
    let all = L.slots_are _ _ c.args.layout.now.sized in
    rw (e, all) (c.slot_at.ensures c.args.side c.steps_of-steps.ensures))

pub returns : goal.returns
returns c = (
  E.ending_end c.args.layout.now.sizes.route _ _ _ _ _ c.loop-way.invariant (omega (arith, c.loop-way-test.false, c.args.layout.now.sized.ways)),
  c.loop-way.invariant.long,
)
