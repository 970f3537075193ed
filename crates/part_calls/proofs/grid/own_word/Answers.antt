-- `grid::own_word` meets its contract.
use mathlib.Core.Path.{sym}
use borrow.Author.Tests.{eq-eqb, ne_eqb}
use Rattle.base.proofs.Tests.{pick_true, pick_false}
use Rattle.part_calls.proofs.grid.own_word.Goals as goal

pub returns-then-mark-eq1 : goal.returns-then-mark-eq1
returns-then-mark-eq1 c =
    let if1 = c.if-mark-eq1 in
    sym (pick_true _ _ _ (eq-eqb _ _ if1.true))

pub returns-else-mark-eq1 : goal.returns-else-mark-eq1
returns-else-mark-eq1 c =
    let if1 = c.if-mark-eq1 in
    sym (pick_false _ _ _ (ne_eqb _ _ if1.false))
