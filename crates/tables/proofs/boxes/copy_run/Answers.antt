-- `tables::boxes::copy_run` meets its contract: the lengths of the slots before are in the table too.
use native.Mathlib.Omega.{arith}
use native.Mathlib.Nat.{add-mul}
use Rattle.nest.proofs.Shapes.{box_tiles_most}
use Rattle.tables.proofs.boxes.Scans as L
use Rattle.tables.proofs.boxes.Runs as R
use Rattle.tables.proofs.boxes.copy_run.Goals as goal

pub overflow_add-end : goal.overflow_add-end
overflow_add-end c = omega (arith, c.requires.0.room, box_tiles_most _ c.args.layout.now.sized.accepted)

pub overflow_mul-end : goal.overflow_mul-end
overflow_mul-end c =
    omega (
      arith,
      R.run_end c.args.layout.now.sizes.route _ _ c.args.layout.now.sized.ways _ _ _ c.requires.0,
      L.slots_few c.args.layout.now.sizes.route _ c.args.layout.now.sized.accepted c.requires.1.plain,
    )

pub overflow_step-slot : goal.overflow_step-slot
overflow_step-slot c =
    omega (
      arith,
      R.run_end c.args.layout.now.sizes.route _ _ c.args.layout.now.sized.ways _ _ _ c.requires.0,
      L.slots_few c.args.layout.now.sizes.route _ c.args.layout.now.sized.accepted c.requires.1.plain,
      add-mul c.args.tile c.args.run.tiles c.args.layout.now.sizes.ways,
    )

pub offset_bounds-lens-slot : goal.offset_bounds-lens-slot
offset_bounds-lens-slot c =
    omega (
      arith,
      c.loop-slot-test.true,
      R.run_end c.args.layout.now.sizes.route _ _ c.args.layout.now.sized.ways _ _ _ c.requires.0,
      L.slots_few c.args.layout.now.sizes.route _ c.args.layout.now.sized.accepted c.requires.1.plain,
    )

pub bounds-lens-slot : goal.bounds-lens-slot
bounds-lens-slot c =
    omega (
      arith,
      c.loop-slot-test.true,
      R.run_end c.args.layout.now.sizes.route _ _ c.args.layout.now.sized.ways _ _ _ c.requires.0,
      L.slots_few c.args.layout.now.sizes.route _ c.args.layout.now.sized.accepted c.requires.1.plain,
      c.loop-slot.invariant.long,
    )

pub loop-slot-preserved : goal.loop-slot-preserved
loop-slot-preserved c =
    L.fill_turn c.args.layout.now.sizes.route _ _ _ _ c.loop-slot.invariant
    (omega (arith, c.loop-slot-test.true, R.run_end c.args.layout.now.sizes.route _ _ c.args.layout.now.sized.ways _ _ _ c.requires.0))
    (L.slots_few c.args.layout.now.sizes.route _ c.args.layout.now.sized.accepted c.requires.1.plain) c.length_back.ensures
