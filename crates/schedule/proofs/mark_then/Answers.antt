-- By the test.
use mathlib.Core.Path.{sym}
use borrow.Author.Tests.{eq-eqb, ne_eqb}
use Rattle.base.proofs.Tests.{pick_true, pick_false}
use Rattle.schedule.specs.Given.{mark_then}
use Rattle.schedule.proofs.mark_then.Goals as goal

pub returns-then-mark-eq1 : goal.returns-then-mark-eq1
unfolding mark_then
returns-then-mark-eq1 c = sym (pick_true _ _ _ (eq-eqb _ 1 c.if-mark-eq1.true))

pub returns-else-mark-eq1 : goal.returns-else-mark-eq1
unfolding mark_then
returns-else-mark-eq1 c = sym (pick_false _ _ _ (ne_eqb _ 1 c.if-mark-eq1.false))
