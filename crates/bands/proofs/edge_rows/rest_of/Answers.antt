-- `bands::edge_rows::rest_of` meets its contract: the first k taps.
use Rattle.kernels.proofs.Sums.{resting_none, resting_skip, resting_take, resting_end}
use Rattle.bands.proofs.edge_rows.rest_of.Goals as goal

pub loop-k-init : goal.loop-k-init
loop-k-init c = resting_none _ _ _ _ _

pub loop-k-preserved-then-firsts-k-eq1024 : goal.loop-k-preserved-then-firsts-k-eq1024
loop-k-preserved-then-firsts-k-eq1024 c =
    resting_skip _ _ _ _ _ _ _ _ _ c.loop-k.invariant c.requires.0 c.loop-k-test.true
    c.if-firsts-k-eq1024.true (c.requires.1.1 _ c.loop-k-test.true) c.requires.1.0

pub loop-k-preserved : goal.loop-k-preserved
loop-k-preserved c =
    resting_take _ _ _ _ _ _ _ _ _ c.loop-k.invariant c.requires.0
    c.loop-k-test.true c.if-firsts-k-eq1024.false

pub returns : goal.returns
returns c = resting_end _ _ _ _ _ _ _ _ _ c.loop-k.invariant c.loop-k-test.false
