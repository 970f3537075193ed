-- `kernels::store_row` meets its contract: the first y cells are stored.
use native.Mathlib.Omega.{arith}
use Rattle.kernels.proofs.Sums.{fits_at_lem, rowing_none, rowing_long, rowing_more, rowing_end}
use Rattle.kernels.proofs.store_row.Goals as goal

pub loop-y-init : goal.loop-y-init
loop-y-init g c = rowing_none _ _ _ _

pub overflow_add-cell : goal.overflow_add-cell
overflow_add-cell g c = omega (arith, c.requires.within, c.requires.small, c.loop-y-test.true)

pub store-requires : goal.store-requires
store-requires g c = fits_at_lem c.requires _ 1 _ (omega arith) (omega (arith, c.loop-y-test.true)) (rowing_long c.loop-y.invariant)

pub loop-y-smaller : goal.loop-y-smaller
loop-y-smaller g c = omega (arith, c.loop-y-test.true)

pub loop-y-preserved : goal.loop-y-preserved
loop-y-preserved g c =
    rowing_more c.loop-y.invariant _ c.loop-y-test.true
    c.store.ensures

pub shape_of-memory : goal.shape_of-memory
shape_of-memory g c = rowing_long c.loop-y.invariant

pub returns : goal.returns
returns g c = rowing_end c.loop-y.invariant c.loop-y-test.false
