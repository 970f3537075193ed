-- `tables::shaped_table::taker_of` meets its contract: none of the first t tiles.
use mathlib.Core.Path.{refl, sym}
use native.Mathlib.Omega.{arith}
use Rattle.tables.proofs.shaped_table.Laws as L
use Rattle.tables.proofs.shaped_table.taker_of.Goals as goal

pub steps_of-steps-requires : goal.steps_of-steps-requires
steps_of-steps-requires c = c.requires.0

pub nonzero_div-slot : goal.nonzero_div-slot
nonzero_div-slot c =
    L.some_ways c.args.layout.now.nest c.args.layout.now.sized.accepted c.args.slot c.args.layout.now.sizes.ways
    (L.ways_are c.args.layout.now.nest c.args.layout.now.sized.accepted c.args.layout.now.sizes.ways
    c.args.layout.now.sizes.route c.args.layout.now.sized.ways c.requires.0) c.requires.1.1

pub box_of-from-requires : goal.box_of-from-requires
box_of-from-requires c = (
  c.args.layout.now.sized.accepted,
  (
    c.requires.1.0.owned.tiled,
    L.sender_low c.args.layout.now.nest
        c.args.layout.now.sized.accepted c.args.slot c.args.layout.now.sizes.ways (L.ways_are c.args.layout.now.nest
        c.args.layout.now.sized.accepted c.args.layout.now.sizes.ways c.args.layout.now.sizes.route c.args.layout.now.sized.ways
        c.requires.0) c.requires.1.1,
  ),
)

pub nonzero_rem-number : goal.nonzero_rem-number
nonzero_rem-number c =
    L.some_ways c.args.layout.now.nest c.args.layout.now.sized.accepted c.args.slot c.args.layout.now.sizes.ways
    (L.ways_are c.args.layout.now.nest c.args.layout.now.sized.accepted c.args.layout.now.sizes.ways c.args.layout.now.sizes.route c.args.layout.now.sized.ways
    c.requires.0) c.requires.1.1

pub offset_bounds-steps-slot : goal.offset_bounds-steps-slot
offset_bounds-steps-slot c =
    omega (
      arith,
      L.way_low c.args.layout.now.nest c.args.layout.now.sized.accepted c.args.slot c.args.layout.now.sizes.ways
          (L.ways_are c.args.layout.now.nest c.args.layout.now.sized.accepted c.args.layout.now.sizes.ways c.args.layout.now.sizes.route c.args.layout.now.sized.ways
          c.requires.0) c.requires.1.1,
      L.dirs_few _ c.args.layout.now.sized.accepted,
    )

pub bounds-steps-slot : goal.bounds-steps-slot
bounds-steps-slot c =
    omega (
      arith,
      L.way_low c.args.layout.now.nest c.args.layout.now.sized.accepted c.args.slot c.args.layout.now.sizes.ways
          (L.ways_are c.args.layout.now.nest c.args.layout.now.sized.accepted c.args.layout.now.sizes.ways c.args.layout.now.sizes.route c.args.layout.now.sized.ways
          c.requires.0) c.requires.1.1,
      L.dirs_few _ c.args.layout.now.sized.accepted,
    )

pub overflow_add-number : goal.overflow_add-number
overflow_add-number c =
    omega (
      arith,
      c.box_of-from.ensures.1,
      L.box_few _ c.args.layout.now.sized.accepted,
      L.step_most _ c.args.layout.now.sized.accepted _
          c.steps_of-steps.ensures _ (L.way_low c.args.layout.now.nest c.args.layout.now.sized.accepted c.args.slot c.args.layout.now.sizes.ways
          (L.ways_are c.args.layout.now.nest c.args.layout.now.sized.accepted c.args.layout.now.sizes.ways c.args.layout.now.sizes.route c.args.layout.now.sized.ways
          c.requires.0) c.requires.1.1),
    )

pub tiles_of-n-requires : goal.tiles_of-n-requires
tiles_of-n-requires c = (c.args.layout.now.sized.accepted, c.requires.1.0.owned.tiled)

pub loop-t-init : goal.loop-t-init
loop-t-init c = (omega arith, λ i h. absurd (omega arith))

pub box_of-own-requires : goal.box_of-own-requires
box_of-own-requires c = (c.args.layout.now.sized.accepted, (c.requires.1.0.owned.tiled, omega (arith, c.tiles_of-n.ensures.0, c.loop-t-test.true)))

pub returns-then-own-number : goal.returns-then-own-number
returns-then-own-number c =
    λ full. sym (L.taker_here c.args.layout.now.nest c.args.layout.now.sized.accepted c.args.slot c.args.layout.now.sizes.ways
    (L.ways_are c.args.layout.now.nest c.args.layout.now.sized.accepted c.args.layout.now.sizes.ways c.args.layout.now.sizes.route c.args.layout.now.sized.ways
    c.requires.0) c.requires.1.1 c.steps_of-steps.result c.steps_of-steps.ensures c.box_of-from.result _
    c.box_of-from.ensures.0 refl full c.loop-t.t (omega (arith, c.tiles_of-n.ensures.0, c.loop-t-test.true))
    (omega (arith, c.box_of-own.ensures.0, c.if-own-number.true)) c.loop-t.invariant.1)

pub overflow_step-t : goal.overflow_step-t
overflow_step-t c = omega (arith, c.loop-t-test.true, c.tiles_of-n.ensures.1)

pub loop-t-smaller : goal.loop-t-smaller
loop-t-smaller c = omega (arith, c.loop-t-test.true)

pub loop-t-preserved : goal.loop-t-preserved
loop-t-preserved c = (
  omega (arith, c.loop-t-test.true),
  L.below_more _ _ _ c.loop-t.invariant.1
      (omega (arith, c.box_of-own.ensures.0, c.if-own-number.false)),
)

pub returns : goal.returns
returns c =
    λ full. L.taker_some c.args.layout.now.nest c.args.layout.now.sized.accepted c.args.slot c.args.layout.now.sizes.ways
    (L.ways_are c.args.layout.now.nest c.args.layout.now.sized.accepted c.args.layout.now.sizes.ways c.args.layout.now.sizes.route c.args.layout.now.sized.ways
    c.requires.0) c.requires.1.1 c.steps_of-steps.result c.steps_of-steps.ensures c.box_of-from.result _
    c.box_of-from.ensures.0 refl full _
    (λ i h. c.loop-t.invariant.1 i (omega (arith, h, c.tiles_of-n.ensures.0, c.loop-t-test.false)))
