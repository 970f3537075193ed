-- `nest::above` meets its contract: one law for each return.
use Rattle.nest.proofs.Cuts as C
use Rattle.nest.proofs.above.Goals as goal

pub returns-then-level-base : goal.returns-then-level-base
returns-then-level-base c = C.above_base _ _ _ c.if-level-base.true

pub returns-then-least-s : goal.returns-then-least-s
returns-then-least-s c = C.above_all _ _ _ c.if-least-s.true

pub returns : goal.returns
returns c = C.above_some _ _ _ c.if-least-s.false
