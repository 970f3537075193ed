-- `tables::shaped_table::rows::lower_cut` meets its contract.
use native.Mathlib.Omega.{arith}
use Rattle.tables.proofs.shaped_table.Lines as L
use Rattle.tables.proofs.shaped_table.rows.lower_cut.Goals as goal

pub edge_of-at-requires : goal.edge_of-at-requires
edge_of-at-requires c = record { bound = (c.requires.0, c.requires.1.0); small = record { low = c.requires.1.1.1.0.low; high = c.requires.1.1.1.0.high } }

pub overflow_add-j : goal.overflow_add-j
overflow_add-j c = omega (arith, (L.bound_four c.args.nest c.requires.0 c.args.area c.args.k c.requires.1.0).0)

pub offset_bounds-low-j : goal.offset_bounds-low-j
offset_bounds-low-j c = omega (arith, (L.bound_four c.args.nest c.requires.0 c.args.area c.args.k c.requires.1.0).0)

pub bounds-low-j : goal.bounds-low-j
bounds-low-j c = omega (arith, (L.bound_four c.args.nest c.requires.0 c.args.area c.args.k c.requires.1.0).0)

pub overflow_add-low : goal.overflow_add-low
overflow_add-low c =
    omega (
      arith,
      L.side_fits c.args.nest c.requires.0 c.args.area c.args.k c.requires.1.0 c.requires.1.1.1.0,
      L.low_fits c.args.nest c.requires.0 c.args.area c.args.k c.requires.1.0 c.requires.1.1.1.0
          c.edge_of-at.result.at c.edge_of-at.ensures.worst,
    )

pub overflow_add-low-then-j-nest : goal.overflow_add-low-then-j-nest
overflow_add-low-then-j-nest c =
    omega (
      arith,
      L.side_fits c.args.nest c.requires.0 c.args.area c.args.k c.requires.1.0 c.requires.1.1.1.0,
      L.low_fits c.args.nest c.requires.0 c.args.area c.args.k c.requires.1.0 c.requires.1.1.1.0
          c.edge_of-at.result.at c.edge_of-at.ensures.worst,
    )

pub returns-then-level-low : goal.returns-then-level-low
returns-then-level-low c =
    let worst = c.edge_of-at in
    L.lower_aside c.args.nest c.requires.0 c.args.area c.args.k c.requires.1.0 c.args.left c.requires.1.1.1.1
    worst.result.at c.requires.1.1.0 worst.ensures.worst c.if-j-nest.true (rw worst.ensures.level at c.if-level-low.true)

pub returns-then-j-nest : goal.returns-then-j-nest
returns-then-j-nest c = L.cut_nothing c.args.nest c.requires.0 c.args.area c.args.k c.requires.1.0 c.args.left c.requires.1.1.1.1

pub overflow_add-left : goal.overflow_add-left
overflow_add-left c =
    let worst = c.edge_of-at in
    omega (
      arith,
      c.requires.1.1.1.1.0,
      L.low_fits c.args.nest c.requires.0 c.args.area c.args.k c.requires.1.0 c.requires.1.1.1.0
          worst.result.at worst.ensures.worst,
    )

pub overflow_add-left-2 : goal.overflow_add-left-2
overflow_add-left-2 c =
    let worst = c.edge_of-at in
    omega (
      arith,
      c.requires.1.1.1.1.0,
      L.low_fits c.args.nest c.requires.0 c.args.area c.args.k c.requires.1.0 c.requires.1.1.1.0
          worst.result.at worst.ensures.worst,
    )

pub returns-then-level-left : goal.returns-then-level-left
returns-then-level-left c =
    let worst = c.edge_of-at in
    L.lower_keeps c.args.nest c.requires.0 c.args.area c.args.k c.requires.1.0 c.args.left c.requires.1.1.1.1
    worst.result.at c.requires.1.1.0 worst.ensures.worst c.if-j-nest.false (rw worst.ensures.level at c.if-level-left.true)

pub overflow_sub-result : goal.overflow_sub-result
overflow_sub-result c = omega (arith, c.if-level-left.false)

pub overflow_sub-result-2 : goal.overflow_sub-result-2
overflow_sub-result-2 c = omega (arith, c.if-level-left.false)

pub returns : goal.returns
returns c =
    let worst = c.edge_of-at in
    let is = worst.ensures.level in
    rw is (L.lower_cuts c.args.nest c.requires.0 c.args.area c.args.k c.requires.1.0 c.args.left c.requires.1.1.1.1
    worst.result.at c.requires.1.1.0 worst.ensures.worst c.if-j-nest.false c.requires.1.1.1.0 (rw is at c.if-level-left.false))
