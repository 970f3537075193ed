-- `writer::limit` meets its contract: one law for each return.
use Rattle.writer.proofs.Loops as S
use Rattle.writer.proofs.limit.Goals as goal

pub returns-then-i-n : goal.returns-then-i-n
returns-then-i-n c = S.limit_in _ _ _ c.if-i-n.true

pub returns : goal.returns
returns c = S.limit_out _ _ _ c.if-i-n.false
