-- `parcels::hops` meets its contract.
use mathlib.Core.Path.{sym, ◌∙◌}
use borrow.Author.Tests.{eq-eqb, ne_eqb}
use Rattle.base.proofs.Tests.{and_left, and_false}
use Rattle.parcels.proofs.hops.Goals as goal

pub returns-then-ahead-eq1 : goal.returns-then-ahead-eq1
returns-then-ahead-eq1 c = sym (and_left _ _ (eq-eqb _ _ c.if-ahead-eq1.true))

pub returns-else-ahead-eq1 : goal.returns-else-ahead-eq1
returns-else-ahead-eq1 c = ne_eqb _ _ c.if-ahead-eq1.false ∙ sym (and_false _ _ (ne_eqb _ _ c.if-ahead-eq1.false))
