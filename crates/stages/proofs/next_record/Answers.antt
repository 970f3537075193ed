use mathlib.Core.Path.{sym}
use borrow.Author.Tests.{lt-ltb, le-ltb}
use Rattle.base.proofs.Tests.{pick_true, pick_false}
use Rattle.stages.proofs.next_record.Goals as goal

pub returns-then-sent-n : goal.returns-then-sent-n
returns-then-sent-n c = λ l b. sym (pick_true _ _ _ (lt-ltb _ _ c.if-sent-n.true))

pub returns : goal.returns
returns c = λ l b. sym (pick_false _ _ _ (le-ltb _ _ c.if-sent-n.false))
