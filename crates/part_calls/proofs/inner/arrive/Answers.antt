-- `inner::arrive` meets its contract: each return by the line that counts.
use Rattle.machine.specs.Machine.{state_of}
use Rattle.part_calls.proofs.Answers as answers
use Rattle.part_calls.proofs.inner.arrive.Goals as goal

pub arrive_part-requires : goal.arrive_part-requires
arrive_part-requires c = record { routed = c.in-Ok.ensures.board.routed; low = (c.in-Ok.ensures.board.low, c.requires) }

pub returns-in-Ok : goal.returns-in-Ok
returns-in-Ok c =
    let A = c.args in
    λ l h. answers.arrive_past A.encoded.now A.route A.processor (state_of A.memory.now A.mail.now l A.marks.now) A.message
    A.words.now _ c.in-Ok.ensures _ (rw c.number_of.ensures (c.arrive_part.ensures l h))

pub returns-in-Err : goal.returns-in-Err
returns-in-Err c =
    let A = c.args in
    λ l h. rw c.number.ensures
    (answers.arrive_read A.encoded.now A.route A.processor (state_of A.memory.now A.mail.now l A.marks.now) A.message
    A.words.now _ c.in-Err.ensures)
