-- `soundings::copy` meets its contract: the words passed are the depths.
use Rattle.soundings.proofs.Sifting as S
use Rattle.soundings.proofs.copy.Goals as goal

pub loop-c-init : goal.loop-c-init
loop-c-init c = S.copy_none _ _

pub loop-c-preserved : goal.loop-c-preserved
loop-c-preserved c = S.copy_more _ _ _ _ c.loop-c.invariant c.loop-c-test.true

pub shape_of-source : goal.shape_of-source
shape_of-source c = c.loop-c.invariant.long

pub returns : goal.returns
returns c = S.copy_end _ _ _ _ c.loop-c.invariant c.loop-c-test.false
