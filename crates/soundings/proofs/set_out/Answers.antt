-- `soundings::set_out` meets its contract: the cells passed have the value, and no key.
use Rattle.soundings.proofs.Sifting as S
use Rattle.soundings.proofs.set_out.Goals as goal

pub loop-c-init : goal.loop-c-init
loop-c-init c = S.set_out_none _ _ c.requires.0 _ c.requires.1

pub loop-c-preserved : goal.loop-c-preserved
loop-c-preserved c = S.set_out_more _ _ c.requires.0 _ _ c.loop-c-test.true c.loop-c.invariant

pub returns : goal.returns
returns c = S.set_out_end _ _ c.requires.0 _ _ c.loop-c-test.false c.loop-c.invariant
