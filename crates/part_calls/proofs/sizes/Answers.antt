-- `part_calls::sizes` meets its contract: each return by the line that counts.
use Rattle.part_calls.proofs.Answers as answers
use Rattle.part_calls.proofs.sizes.Goals as goal

pub sizes_of-requires : goal.sizes_of-requires
sizes_of-requires c = record { routed = c.in-Ok.ensures.board.routed; low = c.in-Ok.ensures.board.low }

pub returns-in-Ok : goal.returns-in-Ok
returns-in-Ok c =
    let A = c.args in
    answers.sizes_done A.encoded.now A.route A.processor _ c.in-Ok.ensures _ c.sizes_of.ensures

pub returns-in-Err : goal.returns-in-Err
returns-in-Err c =
    let A = c.args in
    rw c.no_sizes.ensures (rw c.number.ensures (answers.sizes_read A.encoded.now A.route A.processor _ c.in-Err.ensures))
