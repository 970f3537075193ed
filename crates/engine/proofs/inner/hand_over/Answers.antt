-- Each return is the delivery by the line that counts.
use Rattle.engine.proofs.Lines as lines
use Rattle.engine.proofs.inner.hand_over.Goals as goal

pub returns-then-m-status : goal.returns-then-m-status
returns-then-m-status c = lines.over_beyond _ _ c.if-m-status.true

pub returns-then-status-m-ne1 : goal.returns-then-status-m-ne1
returns-then-status-m-ne1 c = lines.over_none _ _ c.if-m-status.false c.if-status-m-ne1.true

pub returns : goal.returns
returns c =
    let if1 = c.if-m-status in
    let if2 = c.if-status-m-ne1 in
    let A = c.args in
    lines.over_done A.status.now A.message if1.false if2.false
