-- The tiles so far.
use Rattle.schedule.proofs.Chains as chains
use Rattle.schedule.proofs.index.clear.Goals as goal

pub loop-t-init : goal.loop-t-init
loop-t-init c = chains.clear_start _ _ c.requires.0

pub loop-t-preserved : goal.loop-t-preserved
loop-t-preserved c = chains.clear_next _ _ _ c.loop-t.invariant c.loop-t-test.true

pub returns : goal.returns
returns c = chains.clear_done _ _ _ c.loop-t.invariant c.loop-t-test.false
