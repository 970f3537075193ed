-- `writer::table` meets its contract: the first i are made.
use native.Mathlib.Omega.{arith}
use Rattle.writer.proofs.Tables as T
use Rattle.writer.proofs.table.Goals as goal

pub loop-i-init : goal.loop-i-init
loop-i-init g c = T.filling_none _ _ _ _

pub loop-i-preserved : goal.loop-i-preserved
loop-i-preserved g c = T.filling_more _ _ _ _ _ _ c.loop-i.invariant c.loop-i-test.true c.requires.fits _ c.index-values-i.is _ c.of.ensures

pub returns : goal.returns
returns g c = T.filling_all _ _ _ _ _ _ c.loop-i.invariant (omega arith)
