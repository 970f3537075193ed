-- `calendar_calls::windows::covers` meets its contract.
use mathlib.Core.Path.{◌∙◌}
use borrow.Author.Tests.{lt-leb}
use Rattle.calendar.proofs.Windows as W
use Rattle.calendar_calls.proofs.windows.covers.Goals as goal

pub returns-then-opens-minute : goal.returns-then-opens-minute
returns-then-opens-minute c = W.covers_then _ _ _ c.if-opens-minute.true

pub returns-else-opens-minute : goal.returns-else-opens-minute
returns-else-opens-minute c =
    lt-leb _ _ c.if-opens-minute.false ∙ W.covers_before c.args.opens c.args.closes c.args.minute c.if-opens-minute.false
