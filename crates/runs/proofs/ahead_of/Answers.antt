-- `runs::ahead_of` meets its contract: what lies ahead by the first e runs.
use Rattle.runs.proofs.Laws as L
use Rattle.runs.proofs.ahead_of.Goals as goal

pub loop-e-init : goal.loop-e-init
loop-e-init c = L.ahead_none _ _ _ _ c.requires.1

pub loop-e-preserved : goal.loop-e-preserved
loop-e-preserved c = L.ahead_more _ _ _ _ _ _ _ c.loop-e.invariant _ _ c.further-reach.ensures c.sooner-next.ensures
