-- `tables::shaped_table::nth_at` meets its contract: not among the slots before s.
use mathlib.Core.Logic.{inl, inr}
use native.Mathlib.Omega.{arith}
use Prim.Native.Nat.{◌<◌}
use Rattle.plan.specs.Shaped.{shaped_message, shaped_slots}
use Rattle.tables.proofs.scans.Laws.{not_yet}
use Rattle.tables.proofs.shaped_table.Laws as L
use Rattle.tables.proofs.shaped_table.nth_at.Goals as goal
use Rattle.tables.proofs.shaped_table.nth_at.Goals.{then-sends_at+else-seen-j, else-sends_at}

pub steps_of-steps-requires : goal.steps_of-steps-requires
steps_of-steps-requires c = c.requires.sized.0

pub range_of-start-requires : goal.range_of-start-requires
range_of-start-requires c = (c.requires.sized.0, c.requires.sized.1.1)

pub loop-s-init : goal.loop-s-init
loop-s-init c =
    let range-of = c.range_of-start in (
      range-of.ensures.first_low,
      (omega arith, L.range_start _ c.args.layout.now.sized.accepted c.args.side c.args.tile _ _ range-of.ensures),
    )

pub sends_at-requires : goal.sends_at-requires
sends_at-requires c = record { sized = (c.requires.sized.0, (c.requires.sized.1.0, c.steps_of-steps.ensures)); slot_bound = (omega (arith, c.loop-s-test.true, c.range_of-start.ensures.end_low), c.requires.sized.1.1) }

pub message_of-requires : goal.message_of-requires
message_of-requires c = L.sheet _ c.args.layout.now.sized.accepted _ c.requires.sized.1.0 _ (omega (arith, c.loop-s-test.true, c.range_of-start.ensures.end_low))

pub returns-then-seen-j : goal.returns-then-seen-j
returns-then-seen-j c =
    let f = c.sends_at.ensures.0 c.if-sends_at.true in
    let low : c.loop-s.s < shaped_slots c.args.layout.now.nest = omega (arith, c.loop-s-test.true, c.range_of-start.ensures.end_low) in
    L.seen_found _ c.args.layout.now.sized.accepted c.args.side c.args.tile c.loop-s.s c.loop-s.seen c.args.j
    low c.loop-s.invariant.1.1 c.if-seen-j.true f.0 f.1 _
    (c.message_of.ensures (shaped_message c.args.layout.now.nest) (shaped_slots c.args.layout.now.nest)
    (L.lengths _ c.args.layout.now.sized.accepted _ c.requires.sized.1.0 _ (omega arith)) low f.0)

pub overflow_add-seen : goal.overflow_add-seen
overflow_add-seen c = omega (arith, c.loop-s.invariant.1.0)

pub overflow_step-s : goal.overflow_step-s
overflow_step-s c = omega (arith, c.loop-s-test.true, c.range_of-start.ensures.end_low, L.slots_few _ c.args.layout.now.sized.accepted)

pub loop-s-smaller : goal.loop-s-smaller
loop-s-smaller c = omega (arith, c.loop-s-test.true)

pub loop-s-preserved : goal.loop-s-preserved
loop-s-preserved c =
    let loop-test = c.loop-s-test in
    let loop = c.loop-s in
    let if1 = c.if-sends_at in (
      omega (arith, loop-test.true),
      (
        elim if1.branch [ then-sends_at+else-seen-j w ↦ not_yet _ _ _ loop.invariant.1.0 w.if-seen-j.false w.seen-is | else-sends_at w ↦ omega (arith, w.seen-is, loop.invariant.1.0) ],
        L.seen_turn _ c.args.layout.now.sized.accepted c.args.side c.args.tile _ _ _ _
            (omega (arith, loop-test.true, c.range_of-start.ensures.end_low)) loop.invariant.1.1 c.sends_at.ensures
            (elim if1.branch [ then-sends_at+else-seen-j w ↦ inl (w.if-sends_at.true, w.seen-is) | else-sends_at w ↦ inr (w.if-sends_at.false, w.seen-is) ]),
      ),
    )

pub unreachable-requires : goal.unreachable-requires
unreachable-requires c =
    let loop = c.loop-s in
    (L.ranged_nowhere _ c.args.layout.now.sized.accepted c.args.side c.args.tile _ _ c.range_of-start.ensures _ _ _
    loop.invariant.0 c.loop-s-test.false loop.invariant.1.1 loop.invariant.1.0 c.requires.j_in_bounds)
