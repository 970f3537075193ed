use Rattle.base.proofs.Alike.{equal_is}
use Rattle.base.proofs.same.Goals as goal

pub returns : goal.returns
returns c = equal_is _ _ _ c.eq.ensures
