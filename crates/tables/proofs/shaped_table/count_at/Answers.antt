-- `tables::shaped_table::count_at` meets its contract: of the slots before s.
use mathlib.Core.Logic.{inl, inr}
use native.Mathlib.Omega.{arith}
use Rattle.tables.proofs.shaped_table.Laws as L
use Rattle.tables.proofs.shaped_table.count_at.Goals as goal
use Rattle.tables.proofs.shaped_table.count_at.Goals.{then-sends_at, else-sends_at}

pub steps_of-steps-requires : goal.steps_of-steps-requires
steps_of-steps-requires c = c.requires.0

pub range_of-start-requires : goal.range_of-start-requires
range_of-start-requires c = (c.requires.0, c.requires.1.1)

pub loop-s-init : goal.loop-s-init
loop-s-init c =
    let range-of = c.range_of-start in
    (range-of.ensures.first_low, L.range_start _ c.args.layout.now.sized.accepted c.args.side c.args.tile _ _ range-of.ensures)

pub sends_at-requires : goal.sends_at-requires
sends_at-requires c = record { sized = (c.requires.0, (c.requires.1.0, c.steps_of-steps.ensures)); slot_bound = (omega (arith, c.loop-s-test.true, c.range_of-start.ensures.end_low), c.requires.1.1) }

pub overflow_add-count : goal.overflow_add-count
overflow_add-count c =
    let loop = c.loop-s in
    omega (
      arith,
      loop.invariant.1,
      L.seen_few _ c.args.layout.now.sized.accepted c.args.side c.args.tile loop.s,
      c.loop-s-test.true,
      c.range_of-start.ensures.end_low,
      L.slots_few _ c.args.layout.now.sized.accepted,
    )

pub overflow_step-s : goal.overflow_step-s
overflow_step-s c = omega (arith, c.loop-s-test.true, c.range_of-start.ensures.end_low, L.slots_few _ c.args.layout.now.sized.accepted)

pub loop-s-smaller : goal.loop-s-smaller
loop-s-smaller c = omega (arith, c.loop-s-test.true)

pub loop-s-preserved : goal.loop-s-preserved
loop-s-preserved c =
    let loop-test = c.loop-s-test in (
      omega (arith, loop-test.true),
      L.seen_turn _ c.args.layout.now.sized.accepted c.args.side c.args.tile _ _ _ _
          (omega (arith, loop-test.true, c.range_of-start.ensures.end_low)) c.loop-s.invariant.1 c.sends_at.ensures
          (elim c.if-sends_at.branch [ then-sends_at w ↦ inl (w.if-sends_at.true, w.count-is) | else-sends_at w ↦ inr (w.if-sends_at.false, w.count-is) ]),
    )

pub returns : goal.returns
returns c =
    let loop = c.loop-s in
    L.ranged_all _ c.args.layout.now.sized.accepted c.args.side c.args.tile _ _ c.range_of-start.ensures _ _ loop.invariant.0
    c.loop-s-test.false loop.invariant.1
