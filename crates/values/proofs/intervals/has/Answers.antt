-- `values::intervals::has` meets its contract: both tests, one after the other.
use mathlib.Core.Path.{sym}
use borrow.Author.Tests.{lt-leb, le-leb}
use Rattle.base.proofs.Tests.{and_false, and_left}
use Rattle.values.proofs.intervals.has.Goals as goal

pub returns-then-number-from : goal.returns-then-number-from
returns-then-number-from c = sym (and_false _ _ (lt-leb _ _ c.if-number-from.true))

pub returns : goal.returns
returns c = sym (and_left _ _ (le-leb _ _ c.if-number-from.false))
