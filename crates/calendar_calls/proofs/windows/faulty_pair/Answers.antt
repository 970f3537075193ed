-- `calendar_calls::windows::faulty_pair` meets its contract.
use Rattle.calendar.proofs.Windows as W
use Rattle.calendar_calls.proofs.windows.faulty_pair.Goals as goal

pub returns-then-closes-gt-WEEK : goal.returns-then-closes-gt-WEEK
returns-then-closes-gt-WEEK c = W.faulty_high _ _ c.if-closes-gt-WEEK.true

pub returns-then-closes-eq0 : goal.returns-then-closes-eq0
returns-then-closes-eq0 c = W.faulty_none _ _ c.if-closes-eq0.true

pub returns : goal.returns
returns c = W.faulty_order _ _ c.if-closes-gt-WEEK.false c.if-closes-eq0.false
