-- `bands::edge_rows::edge` meets its contract: the first y cells are stored.
use native.Mathlib.Omega.{arith}
use Rattle.kernels.proofs.Sums.{rowing_none, rowing_long, rowing_more, rowing_end, mixes_at, in_line_lem}
use Rattle.bands.proofs.edge_rows.edge.Goals as goal

pub loop-y-init : goal.loop-y-init
loop-y-init c = rowing_none _ _ _ _

pub mixed_at-v-requires : goal.mixed_at-v-requires
mixed_at-v-requires c = mixes_at c.requires _ 1 _ (omega (arith, c.loop-y-test.true)) (rowing_long c.loop-y.invariant)

pub loop-y-preserved : goal.loop-y-preserved
loop-y-preserved c = rowing_more c.loop-y.invariant _ c.loop-y-test.true (in_line_lem _ _ _ _ _ _ _ _ _ _ _ _ c.mixed_at-v.ensures)

pub returns : goal.returns
returns c = rowing_end c.loop-y.invariant c.loop-y-test.false
