-- `tables::boxes::count_tile` meets its contract: the lengths of the slots before are in the table too.
use native.Mathlib.Omega.{arith}
use Rattle.tables.proofs.boxes.Scans as L
use Rattle.tables.proofs.boxes.count_tile.Goals as goal

pub overflow_mul-first : goal.overflow_mul-first
overflow_mul-first c = omega (arith, c.requires.1.low, L.slots_few c.args.layout.now.sizes.route _ c.args.layout.now.sized.accepted c.requires.1.plain)

pub overflow_add-slot-end : goal.overflow_add-slot-end
overflow_add-slot-end c =
    omega (
      arith,
      L.tile_room c.args.layout.now.sizes.route _ _ c.args.layout.now.sized.ways _ c.requires.0,
      L.slots_few c.args.layout.now.sizes.route _ c.args.layout.now.sized.accepted c.requires.1.plain,
    )

pub offset_bounds-lens-slot : goal.offset_bounds-lens-slot
offset_bounds-lens-slot c =
    omega (
      arith,
      L.tile_room c.args.layout.now.sizes.route _ _ c.args.layout.now.sized.ways _ c.requires.0,
      L.slots_few c.args.layout.now.sizes.route _ c.args.layout.now.sized.accepted c.requires.1.plain,
    )

pub bounds-lens-slot : goal.bounds-lens-slot
bounds-lens-slot c =
    omega (
      arith,
      L.tile_room c.args.layout.now.sizes.route _ _ c.args.layout.now.sized.ways _ c.requires.0,
      L.slots_few c.args.layout.now.sizes.route _ c.args.layout.now.sized.accepted c.requires.1.plain,
    )

pub loop-slot-preserved : goal.loop-slot-preserved
loop-slot-preserved c =
    L.fill_turn c.args.layout.now.sizes.route _ _ _ _ c.loop-slot.invariant
    (omega (arith, L.tile_room c.args.layout.now.sizes.route _ _ c.args.layout.now.sized.ways _ c.requires.0))
    (L.slots_few c.args.layout.now.sizes.route _ c.args.layout.now.sized.accepted c.requires.1.plain) c.parcel_length.ensures.0
