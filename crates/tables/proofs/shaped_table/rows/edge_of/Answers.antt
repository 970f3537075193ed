-- `tables::shaped_table::rows::edge_of` meets its contract.
use native.Mathlib.Omega.{arith}
use Rattle.tables.proofs.shaped_table.Lines as L
use Rattle.tables.proofs.shaped_table.rows.edge_of.Goals as goal

pub offset_bounds-flat-e : goal.offset_bounds-flat-e
offset_bounds-flat-e c = omega (arith, (L.bound_four c.args.nest c.requires.bound.0 (record { low = c.args.flat; high = c.args.steep }) c.args.k c.requires.bound.1).1)

pub bounds-flat-e : goal.bounds-flat-e
bounds-flat-e c = omega (arith, (L.bound_four c.args.nest c.requires.bound.0 (record { low = c.args.flat; high = c.args.steep }) c.args.k c.requires.bound.1).1)

pub offset_bounds-steep-e : goal.offset_bounds-steep-e
offset_bounds-steep-e c = omega (arith, (L.bound_four c.args.nest c.requires.bound.0 (record { low = c.args.flat; high = c.args.steep }) c.args.k c.requires.bound.1).1)

pub bounds-steep-e : goal.bounds-steep-e
bounds-steep-e c = omega (arith, (L.bound_four c.args.nest c.requires.bound.0 (record { low = c.args.flat; high = c.args.steep }) c.args.k c.requires.bound.1).1)

pub overflow_mul-level : goal.overflow_mul-level
overflow_mul-level c =
    omega (
      arith,
      L.level_fits c.args.nest c.requires.bound.0 (record { low = c.args.flat; high = c.args.steep }) c.args.k c.requires.bound.1 c.requires.small c.worst-at.result
          (L.low_fits c.args.nest c.requires.bound.0 (record { low = c.args.flat; high = c.args.steep }) c.args.k c.requires.bound.1 c.requires.small
          c.worst-at.result c.worst-at.ensures),
    )

pub overflow_add-level : goal.overflow_add-level
overflow_add-level c =
    omega (
      arith,
      L.level_fits c.args.nest c.requires.bound.0 (record { low = c.args.flat; high = c.args.steep }) c.args.k c.requires.bound.1 c.requires.small c.worst-at.result
          (L.low_fits c.args.nest c.requires.bound.0 (record { low = c.args.flat; high = c.args.steep }) c.args.k c.requires.bound.1 c.requires.small
          c.worst-at.result c.worst-at.ensures),
    )
