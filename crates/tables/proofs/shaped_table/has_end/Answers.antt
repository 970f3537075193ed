-- `tables::shaped_table::has_end` meets its contract.
use mathlib.Core.Path.{refl}
use native.Mathlib.Omega.{arith}
use Rattle.tables.proofs.shaped_table.Laws as L
use Rattle.tables.proofs.shaped_table.has_end.Goals as goal

pub nonzero_div-sender : goal.nonzero_div-sender
nonzero_div-sender c =
    L.some_ways c.args.layout.now.nest c.args.layout.now.sized.accepted c.args.slot c.args.layout.now.sizes.ways
    (L.ways_are c.args.layout.now.nest c.args.layout.now.sized.accepted c.args.layout.now.sizes.ways c.args.layout.now.sizes.route
    c.args.layout.now.sized.ways c.requires.sized.0) c.requires.slot_bound.0

pub returns-then-side-eq0 : goal.returns-then-side-eq0
returns-then-side-eq0 c =
    λ full. L.end_sender c.args.layout.now.nest c.args.layout.now.sized.accepted c.args.slot
    c.args.layout.now.sizes.ways (L.ways_are c.args.layout.now.nest c.args.layout.now.sized.accepted
    c.args.layout.now.sizes.ways c.args.layout.now.sizes.route c.args.layout.now.sized.ways c.requires.sized.0)
    c.requires.slot_bound.0 c.args.side c.args.tile c.if-side-eq0.true

pub box_of-from-requires : goal.box_of-from-requires
box_of-from-requires c = (
  c.args.layout.now.sized.accepted,
  (
    c.requires.sized.1.0.owned.tiled,
    L.sender_low c.args.layout.now.nest
        c.args.layout.now.sized.accepted c.args.slot c.args.layout.now.sizes.ways
        (L.ways_are c.args.layout.now.nest c.args.layout.now.sized.accepted c.args.layout.now.sizes.ways
        c.args.layout.now.sizes.route c.args.layout.now.sized.ways c.requires.sized.0) c.requires.slot_bound.0,
  ),
)

pub nonzero_rem-number : goal.nonzero_rem-number
nonzero_rem-number c =
    L.some_ways c.args.layout.now.nest c.args.layout.now.sized.accepted c.args.slot c.args.layout.now.sizes.ways
    (L.ways_are c.args.layout.now.nest c.args.layout.now.sized.accepted c.args.layout.now.sizes.ways c.args.layout.now.sizes.route c.args.layout.now.sized.ways
    c.requires.sized.0) c.requires.slot_bound.0

pub offset_bounds-steps-slot : goal.offset_bounds-steps-slot
offset_bounds-steps-slot c =
    omega (
      arith,
      L.way_low c.args.layout.now.nest c.args.layout.now.sized.accepted c.args.slot c.args.layout.now.sizes.ways
          (L.ways_are c.args.layout.now.nest c.args.layout.now.sized.accepted c.args.layout.now.sizes.ways c.args.layout.now.sizes.route c.args.layout.now.sized.ways
          c.requires.sized.0) c.requires.slot_bound.0,
      L.slots_few _ c.args.layout.now.sized.accepted,
      L.dirs_few _ c.args.layout.now.sized.accepted,
    )

pub bounds-steps-slot : goal.bounds-steps-slot
bounds-steps-slot c =
    omega (
      arith,
      L.way_low c.args.layout.now.nest c.args.layout.now.sized.accepted c.args.slot c.args.layout.now.sizes.ways
          (L.ways_are c.args.layout.now.nest c.args.layout.now.sized.accepted c.args.layout.now.sizes.ways c.args.layout.now.sizes.route c.args.layout.now.sized.ways
          c.requires.sized.0) c.requires.slot_bound.0,
      L.dirs_few _ c.args.layout.now.sized.accepted,
    )

pub overflow_add-number : goal.overflow_add-number
overflow_add-number c =
    omega (
      arith,
      c.box_of-from.ensures.1,
      L.box_few _ c.args.layout.now.sized.accepted,
      L.step_most _ c.args.layout.now.sized.accepted _
          c.requires.sized.1.1 _ (L.way_low c.args.layout.now.nest c.args.layout.now.sized.accepted c.args.slot c.args.layout.now.sizes.ways
          (L.ways_are c.args.layout.now.nest c.args.layout.now.sized.accepted c.args.layout.now.sizes.ways c.args.layout.now.sizes.route c.args.layout.now.sized.ways
          c.requires.sized.0) c.requires.slot_bound.0),
    )

pub box_of-own-requires : goal.box_of-own-requires
box_of-own-requires c = (c.args.layout.now.sized.accepted, (c.requires.sized.1.0.owned.tiled, c.requires.slot_bound.1))

pub returns-then-number-own : goal.returns-then-number-own
returns-then-number-own c =
    λ full. L.end_no c.args.layout.now.nest c.args.layout.now.sized.accepted c.args.slot c.args.layout.now.sizes.ways
    (L.ways_are c.args.layout.now.nest c.args.layout.now.sized.accepted c.args.layout.now.sizes.ways c.args.layout.now.sizes.route c.args.layout.now.sized.ways
    c.requires.sized.0) c.requires.slot_bound.0 c.args.side c.args.tile c.if-side-eq0.false
    (L.taker_above c.args.layout.now.nest c.args.layout.now.sized.accepted c.args.slot c.args.layout.now.sizes.ways
    (L.ways_are c.args.layout.now.nest c.args.layout.now.sized.accepted c.args.layout.now.sizes.ways c.args.layout.now.sizes.route c.args.layout.now.sized.ways
    c.requires.sized.0) c.requires.slot_bound.0 c.args.steps c.requires.sized.1.1 c.box_of-from.result _ c.box_of-from.ensures.0 refl
    full c.args.tile c.requires.slot_bound.1 (omega (arith, c.box_of-own.ensures.0, c.if-number-own.true)))

pub returns-then-tile-eq0 : goal.returns-then-tile-eq0
returns-then-tile-eq0 c =
    λ full. L.end_yes c.args.layout.now.nest c.args.layout.now.sized.accepted c.args.slot c.args.layout.now.sizes.ways
    (L.ways_are c.args.layout.now.nest c.args.layout.now.sized.accepted c.args.layout.now.sizes.ways c.args.layout.now.sizes.route c.args.layout.now.sized.ways
    c.requires.sized.0) c.requires.slot_bound.0 c.args.side c.args.tile c.if-side-eq0.false
    (L.taker_first c.args.layout.now.nest c.args.layout.now.sized.accepted c.args.slot c.args.layout.now.sizes.ways
    (L.ways_are c.args.layout.now.nest c.args.layout.now.sized.accepted c.args.layout.now.sizes.ways c.args.layout.now.sizes.route c.args.layout.now.sized.ways
    c.requires.sized.0) c.requires.slot_bound.0 c.args.steps c.requires.sized.1.1 c.box_of-from.result _ c.box_of-from.ensures.0 refl
    full c.args.tile c.if-tile-eq0.true c.requires.slot_bound.1 (omega (arith, c.box_of-own.ensures.0, c.if-number-own.false)))

pub overflow_sub-tile : goal.overflow_sub-tile
overflow_sub-tile c = omega (arith, c.if-tile-eq0.false)

pub box_of-before-requires : goal.box_of-before-requires
box_of-before-requires c = (c.args.layout.now.sized.accepted, (c.requires.sized.1.0.owned.tiled, omega (arith, c.requires.slot_bound.1)))

pub returns : goal.returns
returns c =
    λ full. L.taker_test c.args.layout.now.nest c.args.layout.now.sized.accepted c.args.slot c.args.layout.now.sizes.ways
    (L.ways_are c.args.layout.now.nest c.args.layout.now.sized.accepted c.args.layout.now.sizes.ways c.args.layout.now.sizes.route c.args.layout.now.sized.ways
    c.requires.sized.0) c.requires.slot_bound.0 c.args.steps c.requires.sized.1.1 c.box_of-from.result _ c.box_of-from.ensures.0 refl
    full c.args.side c.args.tile c.box_of-before.result c.if-side-eq0.false c.if-tile-eq0.false c.requires.slot_bound.1
    (omega (arith, c.box_of-own.ensures.0, c.if-number-own.false)) c.box_of-before.ensures.0
