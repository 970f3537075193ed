-- `kernels::wave_after` meets its contract: the first y columns are stored, and the last of them is at hand.
use native.Mathlib.Omega.{arith}
use Rattle.kernels.proofs.Sums.{fits_at_lem, waving_none, waving_long, waving_end}
use Rattle.kernels.proofs.Columns.{stands_at, waving_column}
use Rattle.kernels.proofs.wave_after.Goals as goal

pub overflow_sub-a : goal.overflow_sub-a
overflow_sub-a c = omega (arith, c.requires.1.0, c.requires.0.back 0 (omega arith))

pub column_at-last-requires : goal.column_at-last-requires
column_at-last-requires c = (omega (arith, c.requires.1.0, c.requires.0.back 0 (omega arith), c.requires.0.within), c.requires.0.small)

pub loop-y-init : goal.loop-y-init
loop-y-init c = (waving_none _ _ _ _ _, stands_at _ (omega arith) c.column_at-last.ensures)

pub overflow_add-a : goal.overflow_add-a
overflow_add-a c = omega (arith, c.requires.0.within, c.requires.0.small, c.loop-y-test.true)

pub store_column-last-requires : goal.store_column-last-requires
store_column-last-requires c =
    let inv = c.loop-y.invariant in (
      fits_at_lem c.requires.0 _ _ _ (omega arith) (omega (arith, c.loop-y-test.true)) (omega (arith, waving_long inv.0)),
      (c.requires.1.0, (c.requires.1.1, inv.1)),
    )

pub loop-y-smaller : goal.loop-y-smaller
loop-y-smaller c = omega (arith, c.loop-y-test.true)

pub loop-y-preserved : goal.loop-y-preserved
loop-y-preserved c =
    let inv = c.loop-y.invariant in
    let stored = c.store_column-last.ensures in
    (waving_column inv.0 _ c.loop-y-test.true stored.0, stands_at _ (omega arith) stored.1)

pub shape_of-memory : goal.shape_of-memory
shape_of-memory c = waving_long c.loop-y.invariant.0

pub returns : goal.returns
returns c = waving_end c.loop-y.invariant.0 c.loop-y-test.false
