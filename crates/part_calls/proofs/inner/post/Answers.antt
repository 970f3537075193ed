-- `inner::post` meets its contract: each return by the line that counts.
use Rattle.machine.specs.Machine.{state_of}
use Rattle.part_calls.proofs.Answers as answers
use Rattle.part_calls.proofs.inner.post.Goals as goal

pub post_part-requires : goal.post_part-requires
post_part-requires c = record { routed = c.in-Ok.ensures.board.routed; low = (c.in-Ok.ensures.board.low, c.requires) }

pub returns-in-Ok : goal.returns-in-Ok
returns-in-Ok c =
    let A = c.args in
    λ l h. answers.post_past A.encoded.now A.route A.processor (state_of A.memory.now A.mail.now l A.marks.now) A.message _
    c.in-Ok.ensures _ (rw c.number_of.ensures (c.post_part.ensures l h))

pub returns-in-Err : goal.returns-in-Err
returns-in-Err c =
    let A = c.args in
    λ l h. rw c.number.ensures
    (answers.post_read A.encoded.now A.route A.processor (state_of A.memory.now A.mail.now l A.marks.now) A.message _
    c.in-Err.ensures)
