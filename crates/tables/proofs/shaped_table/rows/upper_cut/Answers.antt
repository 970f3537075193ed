-- `tables::shaped_table::rows::upper_cut` meets its contract.
use native.Mathlib.Omega.{arith}
use Rattle.tables.proofs.shaped_table.Lines as L
use Rattle.tables.proofs.shaped_table.rows.upper_cut.Goals as goal

pub edge_of-at-requires : goal.edge_of-at-requires
edge_of-at-requires c = record { bound = (c.requires.0, c.requires.1.0); small = record { low = c.requires.1.1.1.0.high; high = c.requires.1.1.1.0.low } }

pub overflow_add-j : goal.overflow_add-j
overflow_add-j c = omega (arith, (L.bound_four c.args.nest c.requires.0 c.args.area c.args.k c.requires.1.0).0)

pub offset_bounds-high-j : goal.offset_bounds-high-j
offset_bounds-high-j c = omega (arith, (L.bound_four c.args.nest c.requires.0 c.args.area c.args.k c.requires.1.0).0)

pub bounds-high-j : goal.bounds-high-j
bounds-high-j c = omega (arith, (L.bound_four c.args.nest c.requires.0 c.args.area c.args.k c.requires.1.0).0)

pub overflow_add-high : goal.overflow_add-high
overflow_add-high c =
    omega (
      arith,
      L.side_fits c.args.nest c.requires.0 c.args.area c.args.k c.requires.1.0 c.requires.1.1.1.0,
      L.high_fits c.args.nest c.requires.0 c.args.area c.args.k c.requires.1.0 c.requires.1.1.1.0
          c.edge_of-at.result.at c.edge_of-at.ensures.worst,
    )

pub overflow_add-high-then-j-nest : goal.overflow_add-high-then-j-nest
overflow_add-high-then-j-nest c =
    omega (
      arith,
      L.side_fits c.args.nest c.requires.0 c.args.area c.args.k c.requires.1.0 c.requires.1.1.1.0,
      L.high_fits c.args.nest c.requires.0 c.args.area c.args.k c.requires.1.0 c.requires.1.1.1.0
          c.edge_of-at.result.at c.edge_of-at.ensures.worst,
    )

pub returns-then-high-j : goal.returns-then-high-j
returns-then-high-j c =
    let worst = c.edge_of-at in
    L.upper_aside c.args.nest c.requires.0 c.args.area c.args.k c.requires.1.0 c.args.left c.requires.1.1.1.1
    worst.result.at c.requires.1.1.0 worst.ensures.worst c.if-j-nest.true (rw worst.ensures.level at c.if-high-j.true)

pub returns-then-j-nest : goal.returns-then-j-nest
returns-then-j-nest c = L.cut_nothing c.args.nest c.requires.0 c.args.area c.args.k c.requires.1.0 c.args.left c.requires.1.1.1.1

pub overflow_add-at : goal.overflow_add-at
overflow_add-at c =
    omega (
      arith,
      L.side_fits c.args.nest c.requires.0 c.args.area c.args.k c.requires.1.0 c.requires.1.1.1.0,
      L.high_fits c.args.nest c.requires.0 c.args.area c.args.k c.requires.1.0 c.requires.1.1.1.0
          c.edge_of-at.result.at c.edge_of-at.ensures.worst,
    )

pub returns-then-level-at : goal.returns-then-level-at
returns-then-level-at c = L.cut_nothing c.args.nest c.requires.0 c.args.area c.args.k c.requires.1.0 c.args.left c.requires.1.1.1.1

pub overflow_add-level : goal.overflow_add-level
overflow_add-level c =
    let worst = c.edge_of-at in
    omega (
      arith,
      worst.ensures.level,
      L.level_fits c.args.nest c.requires.0 c.args.area c.args.k c.requires.1.0 c.requires.1.1.1.0 worst.result.at
          (L.high_fits c.args.nest c.requires.0 c.args.area c.args.k c.requires.1.0 c.requires.1.1.1.0
          worst.result.at worst.ensures.worst),
    )

pub overflow_sub-level : goal.overflow_sub-level
overflow_sub-level c = omega (arith, c.if-level-at.false)

pub overflow_sub-level-2 : goal.overflow_sub-level-2
overflow_sub-level-2 c = omega (arith, c.if-level-at.false)

pub returns : goal.returns
returns c =
    let worst = c.edge_of-at in
    L.upper_cuts c.args.nest c.requires.0 c.args.area c.args.k c.requires.1.0 c.args.left c.requires.1.1.1.1
    worst.result.at c.requires.1.1.0 worst.ensures.worst c.if-j-nest.false (rw worst.ensures.level at c.if-level-at.false) _ (rw worst.ensures.level at c.min.ensures)
