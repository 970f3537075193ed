-- `parcels::carry` meets its contract.
use mathlib.Core.Path.{sym, ◌∙◌}
use borrow.Author.Tests.{lt-leb, le-leb}
use Rattle.base.proofs.Tests.{and_false, and_left}
use Rattle.parcels.proofs.carry.Goals as goal

pub returns-then-low-moved : goal.returns-then-low-moved
returns-then-low-moved c = sym (and_left _ _ (le-leb _ _ c.if-low-moved.true))

pub returns-else-low-moved : goal.returns-else-low-moved
returns-else-low-moved c = lt-leb _ _ c.if-low-moved.false ∙ sym (and_false _ _ (lt-leb _ _ c.if-low-moved.false))
