-- `tables::boxes::length_back` meets its contract: the slot so far before has its length in the table.
use native.Mathlib.Omega.{arith}
use mathlib.Core.Path.{◌∙◌}
use Rattle.tables.proofs.boxes.Scans as L
use Rattle.tables.proofs.boxes.Runs as R
use Rattle.tables.proofs.boxes.length_back.Goals as goal

pub overflow_mul-result : goal.overflow_mul-result
overflow_mul-result c =
    omega (
      arith,
      R.back_low c.args.layout.now.sizes.route _ _ c.args.layout.now.sized.ways _ _ _ _ c.requires.sized.0 c.requires.ways_bound.0 c.requires.ways_bound.1,
      R.slot_low c.args.layout.now.sizes.route _ _ c.args.layout.now.sized.ways _ _ _ _ c.requires.sized.0 c.requires.ways_bound.0 c.requires.ways_bound.1,
      L.slots_few c.args.layout.now.sizes.route _ c.args.layout.now.sized.accepted c.requires.sized.1.plain,
    )

pub overflow_sub-result : goal.overflow_sub-result
overflow_sub-result c = R.back_low c.args.layout.now.sizes.route _ _ c.args.layout.now.sized.ways _ _ _ _ c.requires.sized.0 c.requires.ways_bound.0 c.requires.ways_bound.1

pub offset_bounds-lens-slot : goal.offset_bounds-lens-slot
offset_bounds-lens-slot c =
    omega (
      arith,
      R.back_low c.args.layout.now.sizes.route _ _ c.args.layout.now.sized.ways _ _ _ _ c.requires.sized.0 c.requires.ways_bound.0 c.requires.ways_bound.1,
      R.slot_low c.args.layout.now.sizes.route _ _ c.args.layout.now.sized.ways _ _ _ _ c.requires.sized.0 c.requires.ways_bound.0 c.requires.ways_bound.1,
      L.slots_few c.args.layout.now.sizes.route _ c.args.layout.now.sized.accepted c.requires.sized.1.plain,
    )

pub bounds-lens-slot : goal.bounds-lens-slot
bounds-lens-slot c =
    omega (
      arith,
      R.back_low c.args.layout.now.sizes.route _ _ c.args.layout.now.sized.ways _ _ _ _ c.requires.sized.0 c.requires.ways_bound.0 c.requires.ways_bound.1,
      R.slot_low c.args.layout.now.sizes.route _ _ c.args.layout.now.sized.ways _ _ _ _ c.requires.sized.0 c.requires.ways_bound.0 c.requires.ways_bound.1,
      L.slots_few c.args.layout.now.sizes.route _ c.args.layout.now.sized.accepted c.requires.sized.1.plain,
    )

pub returns : goal.returns
returns c =
    c.requires.sized.1.each _
    (R.back_before c.args.layout.now.sizes.route _ _ c.args.layout.now.sized.ways _ _ _ _ c.requires.sized.0 c.requires.ways_bound.0 c.requires.ways_bound.1)
    ∙ R.back_same c.args.layout.now.sizes.route _ _ c.args.layout.now.sized.ways _ _ _ _ c.requires.sized.0 c.requires.ways_bound.0 c.requires.ways_bound.1
