-- `nest::kept` meets its contract: one law for each return.
use Rattle.nest.proofs.Cuts as C
use Rattle.nest.proofs.kept.Goals as goal

pub returns-then-holds : goal.returns-then-holds
returns-then-holds c = C.all_kept _ _ c.if-holds.true

pub returns : goal.returns
returns c = C.none_kept _ _ c.if-holds.false
