-- `values::shaped_values::store_row` meets its contract: the first y cells are stored.
use Rattle.kernels.proofs.Sums.{rowing_none, rowing_long, rowing_more, rowing_end}
use Rattle.values.proofs.shaped_values.Words.{readable_at, along_at}
use Rattle.values.proofs.shaped_values.store_row.Goals as goal

pub loop-y-init : goal.loop-y-init
loop-y-init c = rowing_none _ _ _ _

pub value_at-v-requires : goal.value_at-v-requires
value_at-v-requires c = readable_at c.requires _ _ c.loop-y-test.true (rowing_long c.loop-y.invariant)

pub loop-y-preserved : goal.loop-y-preserved
loop-y-preserved c = rowing_more c.loop-y.invariant _ c.loop-y-test.true (along_at _ _ _ _ _ _ _ _ _ _ _ _ _ _ c.value_at-v.ensures)

pub returns : goal.returns
returns c = rowing_end c.loop-y.invariant c.loop-y-test.false
