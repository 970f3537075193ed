-- `calendar_calls::windows::wait` meets its contract: one law for each return.
use Rattle.calendar.proofs.Windows as W
use Rattle.calendar_calls.proofs.windows.wait.Goals as goal

pub returns-then-minute-opens : goal.returns-then-minute-opens
returns-then-minute-opens c = W.wait_later _ _ _ c.requires.0 c.requires.1 c.if-minute-opens.true

pub returns-then-minute-closes : goal.returns-then-minute-closes
returns-then-minute-closes c = W.wait_now _ _ _ c.requires.0 c.requires.1 c.if-minute-opens.false c.if-minute-closes.true

pub returns-then-closes-eq0 : goal.returns-then-closes-eq0
returns-then-closes-eq0 c = W.wait_never _ _ _ c.requires.0 c.requires.1 c.if-closes-eq0.true

pub returns : goal.returns
returns c =
    W.wait_week _ _ _ c.requires.0 c.requires.1 c.if-minute-opens.false c.if-minute-closes.false
    c.if-closes-eq0.false
