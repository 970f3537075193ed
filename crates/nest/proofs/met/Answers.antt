-- `nest::met` meets its contract: each return by its branch.
use mathlib.Core.Path.{sym}
use Rattle.base.proofs.Tests.{pick_true, pick_false}
use Rattle.nest.proofs.met.Goals as goal

pub returns-then-lower : goal.returns-then-lower
returns-then-lower c = sym (pick_true _ _ _ c.if-lower.true)

pub returns : goal.returns
returns c = sym (pick_false _ _ _ c.if-lower.false)
