-- `tables::shaped_table::rows::area_of` meets its contract: the first j dimensions.
use mathlib.Core.Path.{refl}
use native.Mathlib.Omega.{arith}
use Rattle.layout.proofs.Loops.{filled_none, filled_more}
use Rattle.tables.proofs.shaped_table.Lines as L
use Rattle.tables.proofs.shaped_table.rows.area_of.Goals as goal

pub loop-j-init : goal.loop-j-init
loop-j-init c = (filled_none _ _ _ (omega arith), filled_none _ _ _ (omega arith))

pub offset_bounds-at-j : goal.offset_bounds-at-j
offset_bounds-at-j c = omega (arith, c.loop-j-test.true, c.requires.0.dimensions_most)

pub bounds-at-j : goal.bounds-at-j
bounds-at-j c = omega (arith, c.loop-j-test.true, c.requires.0.dimensions_most)

pub offset_bounds-tiling-j : goal.offset_bounds-tiling-j
offset_bounds-tiling-j c = omega (arith, c.loop-j-test.true, c.requires.0.dimensions_most)

pub bounds-tiling-j : goal.bounds-tiling-j
bounds-tiling-j c = omega (arith, c.loop-j-test.true, c.requires.0.dimensions_most)

pub overflow_mul-first : goal.overflow_mul-first
overflow_mul-first c = omega (arith, L.first_few c.args.nest c.requires.0 c.args.at c.requires.1.1 c.loop-j.j c.loop-j-test.true)

pub offset_bounds-low-j : goal.offset_bounds-low-j
offset_bounds-low-j c = omega (arith, c.loop-j-test.true, c.requires.0.dimensions_most)

pub bounds-low-j : goal.bounds-low-j
bounds-low-j c = omega (arith, c.loop-j-test.true, c.requires.0.dimensions_most)

pub offset_bounds-tiling-j-in-loop-j : goal.offset_bounds-tiling-j-in-loop-j
offset_bounds-tiling-j-in-loop-j c = omega (arith, c.loop-j-test.true, c.requires.0.dimensions_most)

pub bounds-tiling-j-in-loop-j : goal.bounds-tiling-j-in-loop-j
bounds-tiling-j-in-loop-j c = omega (arith, c.loop-j-test.true, c.requires.0.dimensions_most)

pub overflow_sub-high : goal.overflow_sub-high
overflow_sub-high c = omega (arith, c.requires.0.tiled c.loop-j.j c.loop-j-test.true)

pub overflow_add-high : goal.overflow_add-high
overflow_add-high c =
    omega (
      arith,
      L.first_few c.args.nest c.requires.0 c.args.at c.requires.1.1 c.loop-j.j c.loop-j-test.true,
      c.requires.0.tile_most c.loop-j.j,
      c.requires.1.0.small c.loop-j.j,
    )

pub offset_bounds-most-j : goal.offset_bounds-most-j
offset_bounds-most-j c = omega (arith, c.loop-j-test.true, c.requires.0.dimensions_most)

pub bounds-most-j : goal.bounds-most-j
bounds-most-j c = omega (arith, c.loop-j-test.true, c.requires.0.dimensions_most)

pub overflow_add-high-in-loop-j : goal.overflow_add-high-in-loop-j
overflow_add-high-in-loop-j c =
    omega (
      arith,
      L.first_few c.args.nest c.requires.0 c.args.at c.requires.1.1 c.loop-j.j c.loop-j-test.true,
      c.requires.0.tile_most c.loop-j.j,
      c.requires.1.0.small c.loop-j.j,
    )

pub offset_bounds-high-j : goal.offset_bounds-high-j
offset_bounds-high-j c = omega (arith, c.loop-j-test.true, c.requires.0.dimensions_most)

pub bounds-high-j : goal.bounds-high-j
bounds-high-j c = omega (arith, c.loop-j-test.true, c.requires.0.dimensions_most)

pub overflow_step-j : goal.overflow_step-j
overflow_step-j c = omega (arith, c.loop-j-test.true, c.requires.0.dimensions_most)

pub loop-j-smaller : goal.loop-j-smaller
loop-j-smaller c = omega (arith, c.loop-j-test.true)

pub loop-j-preserved : goal.loop-j-preserved
loop-j-preserved c = (
  filled_more _ _ _ _ _ c.loop-j.invariant.0 c.loop-j-test.true c.requires.0.dimensions_most refl,
  filled_more _ _ _ _ _ c.loop-j.invariant.1 c.loop-j-test.true c.requires.0.dimensions_most refl,
)

pub returns : goal.returns
returns c =
    L.area_is c.args.nest c.requires.0 c.args.at c.requires.1.1 _ _ _ _ c.loop-j.invariant.0 c.loop-j.invariant.1
    c.loop-j-test.false
