-- `tables::shaped_table::count_tile` meets its contract: the lengths of the first parcels of the tile.
use Prim.Native.Nat.{◌*◌}
use mathlib.Core.Path.{sym}
use native.Mathlib.Nat.{add-zero}
use native.Mathlib.Omega.{arith}
use Rattle.plan.specs.Messages.{directions}
use Rattle.tables.proofs.shaped_table.Laws as L
use Rattle.tables.proofs.shaped_table.count_tile.Goals as goal

pub box_of-number-requires : goal.box_of-number-requires
box_of-number-requires c = (c.args.layout.now.sized.accepted, (c.requires.tile_bound.1.owned.tiled, c.requires.tile_bound.0))

pub loop-way-init : goal.loop-way-init
loop-way-init c = (rw (add-zero (c.args.tile * directions c.args.layout.now.nest)) c.requires.tile_bound.1, omega arith)

pub slot_length-length-requires : goal.slot_length-length-requires
slot_length-length-requires c =
    record {
      sized = (
        c.requires.sized.0,
        (
          c.box_of-number.ensures.1,
          omega (
            arith,
            c.loop-way-test.true,
            (L.ways_are c.args.layout.now.nest c.args.layout.now.sized.accepted c.args.layout.now.sizes.ways c.args.layout.now.sizes.route
                c.args.layout.now.sized.ways c.requires.sized.0),
          ),
        ),
      );
      farthest = (c.requires.sized.1, c.place_of_tile-at.ensures);
    }

pub overflow_cast-lens : goal.overflow_cast-lens
overflow_cast-lens c = omega (arith, c.slot_length-length.ensures.1)

pub overflow_mul-lens : goal.overflow_mul-lens
overflow_mul-lens c =
    let loop = c.loop-way in
    let loop-test = c.loop-way-test in
    omega (
      arith,
      (L.slot_place c.args.layout.now.nest c.args.layout.now.sized.accepted c.args.tile c.args.layout.now.sizes.ways loop.way
          (L.ways_are c.args.layout.now.nest c.args.layout.now.sized.accepted c.args.layout.now.sizes.ways c.args.layout.now.sizes.route c.args.layout.now.sized.ways
          c.requires.sized.0)
          c.requires.tile_bound.0 loop-test.true).0,
      (L.slot_place c.args.layout.now.nest c.args.layout.now.sized.accepted c.args.tile c.args.layout.now.sizes.ways loop.way
          (L.ways_are c.args.layout.now.nest c.args.layout.now.sized.accepted c.args.layout.now.sizes.ways c.args.layout.now.sizes.route c.args.layout.now.sized.ways
          c.requires.sized.0)
          c.requires.tile_bound.0 loop-test.true).1,
    )

pub overflow_add-lens : goal.overflow_add-lens
overflow_add-lens c =
    let loop = c.loop-way in
    let loop-test = c.loop-way-test in
    omega (
      arith,
      (L.slot_place c.args.layout.now.nest c.args.layout.now.sized.accepted c.args.tile c.args.layout.now.sizes.ways loop.way
          (L.ways_are c.args.layout.now.nest c.args.layout.now.sized.accepted c.args.layout.now.sizes.ways c.args.layout.now.sizes.route c.args.layout.now.sized.ways
          c.requires.sized.0)
          c.requires.tile_bound.0 loop-test.true).0,
      (L.slot_place c.args.layout.now.nest c.args.layout.now.sized.accepted c.args.tile c.args.layout.now.sizes.ways loop.way
          (L.ways_are c.args.layout.now.nest c.args.layout.now.sized.accepted c.args.layout.now.sizes.ways c.args.layout.now.sizes.route c.args.layout.now.sized.ways
          c.requires.sized.0)
          c.requires.tile_bound.0 loop-test.true).1,
    )

pub offset_bounds-lens-tile : goal.offset_bounds-lens-tile
offset_bounds-lens-tile c =
    let loop = c.loop-way in
    let loop-test = c.loop-way-test in
    omega (
      arith,
      (L.slot_place c.args.layout.now.nest c.args.layout.now.sized.accepted c.args.tile c.args.layout.now.sizes.ways loop.way
          (L.ways_are c.args.layout.now.nest c.args.layout.now.sized.accepted c.args.layout.now.sizes.ways c.args.layout.now.sizes.route c.args.layout.now.sized.ways
          c.requires.sized.0)
          c.requires.tile_bound.0 loop-test.true).0,
      (L.slot_place c.args.layout.now.nest c.args.layout.now.sized.accepted c.args.tile c.args.layout.now.sizes.ways loop.way
          (L.ways_are c.args.layout.now.nest c.args.layout.now.sized.accepted c.args.layout.now.sizes.ways c.args.layout.now.sizes.route c.args.layout.now.sized.ways
          c.requires.sized.0)
          c.requires.tile_bound.0 loop-test.true).1,
    )

pub bounds-lens-tile : goal.bounds-lens-tile
bounds-lens-tile c =
    let loop = c.loop-way in
    omega (
      arith,
      (L.slot_place c.args.layout.now.nest c.args.layout.now.sized.accepted c.args.tile c.args.layout.now.sizes.ways loop.way
          (L.ways_are c.args.layout.now.nest c.args.layout.now.sized.accepted c.args.layout.now.sizes.ways c.args.layout.now.sizes.route c.args.layout.now.sized.ways
          c.requires.sized.0)
          c.requires.tile_bound.0 c.loop-way-test.true).1,
      loop.invariant.0.owned.tiled.numbers.long,
    )

pub overflow_step-way : goal.overflow_step-way
overflow_step-way c =
    let loop = c.loop-way in
    let loop-test = c.loop-way-test in
    omega (
      arith,
      (L.slot_place c.args.layout.now.nest c.args.layout.now.sized.accepted c.args.tile c.args.layout.now.sizes.ways loop.way
          (L.ways_are c.args.layout.now.nest c.args.layout.now.sized.accepted c.args.layout.now.sizes.ways c.args.layout.now.sizes.route c.args.layout.now.sized.ways
          c.requires.sized.0)
          c.requires.tile_bound.0 loop-test.true).0,
      (L.slot_place c.args.layout.now.nest c.args.layout.now.sized.accepted c.args.tile c.args.layout.now.sizes.ways loop.way
          (L.ways_are c.args.layout.now.nest c.args.layout.now.sized.accepted c.args.layout.now.sizes.ways c.args.layout.now.sizes.route c.args.layout.now.sized.ways
          c.requires.sized.0)
          c.requires.tile_bound.0 loop-test.true).1,
    )

pub loop-way-smaller : goal.loop-way-smaller
loop-way-smaller c = omega (arith, c.loop-way-test.true)

pub loop-way-preserved : goal.loop-way-preserved
loop-way-preserved c =
    let loop-test = c.loop-way-test in (
      L.fill_step _ c.args.layout.now.sized.accepted _ _ _ _ _
          (L.ways_are c.args.layout.now.nest c.args.layout.now.sized.accepted c.args.layout.now.sizes.ways c.args.layout.now.sizes.route c.args.layout.now.sized.ways
          c.requires.sized.0)
          c.loop-way.invariant.0 c.requires.tile_bound.0 loop-test.true
          (c.slot_length-length.ensures.0 c.args.tile c.requires.tile_bound.0 (sym c.box_of-number.ensures.0)),
      omega (arith, loop-test.true),
    )

pub returns : goal.returns
returns c =
    let loop = c.loop-way in
    L.fill_next _ c.args.layout.now.sized.accepted _ _ _ _
    (L.ways_are c.args.layout.now.nest c.args.layout.now.sized.accepted c.args.layout.now.sizes.ways c.args.layout.now.sizes.route c.args.layout.now.sized.ways
    c.requires.sized.0)
    loop.invariant.1 c.loop-way-test.false loop.invariant.0
