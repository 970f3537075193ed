-- `layout::share_of` meets its contract.
use Rattle.layout.proofs.Shares.{shared_all, shared_some}
use Rattle.layout.proofs.share_of.Goals as goal

pub returns-then-not-spread : goal.returns-then-not-spread
returns-then-not-spread c = shared_all _ _ _ _ c.if-not-spread.true c.requires.0

pub returns : goal.returns
returns c = shared_some _ _ _ _ (c.if-not-spread.false)
