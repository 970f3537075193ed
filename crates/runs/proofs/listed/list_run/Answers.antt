-- `list_run` meets its contract: the first y cells are listed.
use native.Mathlib.Omega.{arith}
use Rattle.base.proofs.Copies.{copies_none, copies_long, copies_end}
use Rattle.runs.proofs.listed.Numbers as L
use Rattle.runs.proofs.listed.list_run.Goals as goal

pub loop-y-init : goal.loop-y-init
loop-y-init c = copies_none _ _ _ _ _

pub overflow_add-cells : goal.overflow_add-cells
overflow_add-cells c = omega (arith, c.loop-y-test.true, c.requires.outer)

pub overflow_cast-cells : goal.overflow_cast-cells
overflow_cast-cells c = omega (arith, c.loop-y-test.true, c.requires.outer)

pub overflow_add-cells-in-loop-y : goal.overflow_add-cells-in-loop-y
overflow_add-cells-in-loop-y c = omega (arith, c.loop-y-test.true, c.requires.inner, c.requires.short.0)

pub offset_bounds-cells-at : goal.offset_bounds-cells-at
offset_bounds-cells-at c = omega (arith, c.loop-y-test.true, c.requires.inner, c.requires.short.0)

pub bounds-cells-at : goal.bounds-cells-at
bounds-cells-at c = omega (arith, c.loop-y-test.true, c.requires.inner, copies_long _ _ _ _ _ c.requires.inner (rw L.numbers_long c.requires.outer) _ _ c.loop-y.invariant)

pub overflow_step-y : goal.overflow_step-y
overflow_step-y c = omega (arith, c.loop-y-test.true, c.requires.inner, c.requires.short.0)

pub loop-y-smaller : goal.loop-y-smaller
loop-y-smaller c = omega (arith, c.loop-y-test.true)

pub loop-y-preserved : goal.loop-y-preserved
loop-y-preserved c = L.listed_more _ _ _ _ c.requires.inner c.requires.outer _ _ c.loop-y.invariant c.loop-y-test.true

pub shape_of-cells : goal.shape_of-cells
shape_of-cells c = copies_long _ _ _ _ _ c.requires.inner (rw L.numbers_long c.requires.outer) _ _ c.loop-y.invariant

pub returns : goal.returns
returns c = copies_end _ _ _ _ _ c.requires.inner (rw L.numbers_long c.requires.outer) _ _ c.loop-y.invariant c.loop-y-test.false
