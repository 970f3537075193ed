-- `nest::span_of` meets its contract: each bound cuts what those before it left.
use Rattle.nest.proofs.Cuts as C
use Rattle.nest.proofs.span_of.Goals as goal

pub loop-k-init : goal.loop-k-init
loop-k-init c = C.cutting_start _ _

pub loop-k-preserved : goal.loop-k-preserved
loop-k-preserved c = C.cutting_next _ _ _ _ _ c.loop-k.invariant c.loop-k-test.true c.cut-left.ensures

pub returns : goal.returns
returns c = C.cutting_end _ _ _ _ c.loop-k.invariant c.loop-k-test.false
