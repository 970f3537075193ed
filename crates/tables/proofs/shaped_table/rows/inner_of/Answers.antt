-- `tables::shaped_table::rows::inner_of` meets its contract: what the first k bounds leave.
use native.Mathlib.Omega.{arith}
use Rattle.tables.proofs.shaped_table.Lines as L
use Rattle.tables.proofs.shaped_table.rows.inner_of.Goals as goal

pub overflow_sub-left : goal.overflow_sub-left
overflow_sub-left c = omega (arith, c.requires.0.dimensions_least, c.requires.0.dimensions_most)

pub offset_bounds-lengths-nest : goal.offset_bounds-lengths-nest
offset_bounds-lengths-nest c = omega (arith, c.requires.0.dimensions_least, c.requires.0.dimensions_most)

pub bounds-lengths-nest : goal.bounds-lengths-nest
bounds-lengths-nest c = omega (arith, c.requires.0.dimensions_least, c.requires.0.dimensions_most)

pub loop-k-init : goal.loop-k-init
loop-k-init c = (L.inner_none c.args.nest c.args.area _ (c.requires.0.length_most _), omega arith)

pub cut_by-left-requires : goal.cut_by-left-requires
cut_by-left-requires c = (c.requires.0, (c.loop-k-test.true, (c.requires.1, c.loop-k.invariant.0.few)))

pub overflow_step-k : goal.overflow_step-k
overflow_step-k c = omega (arith, c.loop-k-test.true, c.requires.0.bounds_most)

pub loop-k-smaller : goal.loop-k-smaller
loop-k-smaller c = omega (arith, c.loop-k-test.true)

pub loop-k-preserved : goal.loop-k-preserved
loop-k-preserved c = (
  L.inner_more c.args.nest c.args.area _ _ _ c.loop-k.invariant.0 c.cut_by-left.ensures,
  omega (arith, c.loop-k-test.true),
)

pub returns : goal.returns
returns c = L.inner_end c.args.nest c.args.area _ _ _ c.loop-k.invariant.0 c.loop-k.invariant.1 c.loop-k-test.false
