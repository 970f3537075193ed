-- `kernels::store_wave` meets its contract: the first y columns are stored.
use native.Mathlib.Omega.{arith}
use Rattle.kernels.proofs.Sums.{column_small, column_fits, waving_none, waving_long, waving_more, waving_end}
use Rattle.kernels.proofs.store_wave.Goals as goal

pub loop-y-init : goal.loop-y-init
loop-y-init g c = waving_none _ _ _ _ _

pub overflow_add-b : goal.overflow_add-b
overflow_add-b g c = omega (arith, column_small c.loop-y.invariant c.requires c.loop-y-test.true)

pub overflow_add-b-in-loop-y : goal.overflow_add-b-in-loop-y
overflow_add-b-in-loop-y g c = omega (arith, column_small c.loop-y.invariant c.requires c.loop-y-test.true)

pub overflow_add-c : goal.overflow_add-c
overflow_add-c g c = omega (arith, column_small c.loop-y.invariant c.requires c.loop-y-test.true)

pub overflow_add-d : goal.overflow_add-d
overflow_add-d g c = omega (arith, column_small c.loop-y.invariant c.requires c.loop-y-test.true)

pub overflow_add-a : goal.overflow_add-a
overflow_add-a g c = omega (arith, column_small c.loop-y.invariant c.requires c.loop-y-test.true)

pub store-requires : goal.store-requires
store-requires g c = column_fits c.loop-y.invariant c.requires c.loop-y-test.true _ _ (omega arith) (omega arith) (omega arith)

pub store-requires-in-loop-y : goal.store-requires-in-loop-y
store-requires-in-loop-y g c =
    column_fits c.loop-y.invariant c.requires c.loop-y-test.true _ _ (omega arith) (omega arith) (omega arith)

pub store-requires-in-loop-y-2 : goal.store-requires-in-loop-y-2
store-requires-in-loop-y-2 g c =
    column_fits c.loop-y.invariant c.requires c.loop-y-test.true _ _ (omega arith) (omega arith) (omega arith)

pub store-requires-in-loop-y-3 : goal.store-requires-in-loop-y-3
store-requires-in-loop-y-3 g c =
    column_fits c.loop-y.invariant c.requires c.loop-y-test.true _ _ (omega arith) (omega arith) (omega arith)

pub loop-y-smaller : goal.loop-y-smaller
loop-y-smaller g c = omega (arith, c.loop-y-test.true)

pub loop-y-preserved : goal.loop-y-preserved
loop-y-preserved g c =
    waving_more c.loop-y.invariant _ _ _ _ c.loop-y-test.true c.store.ensures c.store-in-loop-y.ensures
    c.store-in-loop-y-2.ensures c.store-in-loop-y-3.ensures

pub shape_of-memory : goal.shape_of-memory
shape_of-memory g c = waving_long c.loop-y.invariant

pub returns : goal.returns
returns g c = waving_end c.loop-y.invariant c.loop-y-test.false
