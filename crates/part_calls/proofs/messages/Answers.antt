-- `part_calls::messages` meets its contract: each return by the line that counts.
use Rattle.part_calls.proofs.Answers as answers
use Rattle.part_calls.proofs.messages.Goals as goal

pub messages_part-requires : goal.messages_part-requires
messages_part-requires c = record { routed = c.in-Ok.ensures.board.routed; low = c.in-Ok.ensures.board.low }

pub returns-in-Ok : goal.returns-in-Ok
returns-in-Ok c =
    let A = c.args in
    answers.messages_past A.encoded.now A.route A.processor A.out.now _ c.in-Ok.ensures _
    (rw c.number_of.ensures c.messages_part.ensures)

pub returns-in-Err : goal.returns-in-Err
returns-in-Err c =
    let A = c.args in
    rw c.number.ensures (answers.messages_read A.encoded.now A.route A.processor A.out.now _ c.in-Err.ensures)
