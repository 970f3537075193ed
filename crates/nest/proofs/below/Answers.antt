-- `nest::below` meets its contract: one law for each return.
use Rattle.nest.proofs.Cuts as C
use Rattle.nest.proofs.below.Goals as goal

pub returns-then-level-base : goal.returns-then-level-base
returns-then-level-base c = C.below_none _ _ _ c.if-level-base.true

pub returns-then-s-most : goal.returns-then-s-most
returns-then-s-most c = C.below_all _ _ _ c.if-level-base.false c.if-s-most.true

pub returns : goal.returns
returns c = C.below_some _ _ _ c.if-level-base.false c.if-s-most.false
