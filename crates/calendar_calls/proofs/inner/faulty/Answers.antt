use mathlib.Core.Path.{◌∙◌}
use borrow.Author.Tests.{le-leb}
use Rattle.calendar_calls.proofs.Lines as lines
use Rattle.calendar_calls.proofs.inner.faulty.Goals as goal

pub returns-then-minute-ge-WEEK : goal.returns-then-minute-ge-WEEK
returns-then-minute-ge-WEEK c =
    let A = c.args in le-leb _ _ c.if-minute-ge-WEEK.true ∙ lines.minute_high A.n A.calendar.now A.minute c.if-minute-ge-WEEK.true

pub returns-else-minute-ge-WEEK : goal.returns-else-minute-ge-WEEK
returns-else-minute-ge-WEEK c = let A = c.args in lines.minute_low A.n A.calendar.now A.minute c.if-minute-ge-WEEK.false _ c.faulty_table.ensures
