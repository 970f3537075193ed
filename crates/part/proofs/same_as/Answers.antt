-- `same_as` meets its contract: by the test.
use mathlib.Core.Path.{sym}
use borrow.Author.Tests.{eq-eqb, ne_eqb}
use Rattle.base.proofs.Tests.{one_true, one_false}
use Rattle.part.proofs.same_as.Goals as goal

pub returns-then-a-b : goal.returns-then-a-b
returns-then-a-b c = sym (one_true (eq-eqb _ _ c.if-a-b.true))

pub returns-else-a-b : goal.returns-else-a-b
returns-else-a-b c = sym (one_false (ne_eqb _ _ c.if-a-b.false))
