-- Each return is the call by the line that counts.
use Rattle.machine.specs.Machine.{state_of}
use Rattle.part_calls.proofs.turn.Turned as turned
use Rattle.part_calls.proofs.turn.turn.Goals as goal

pub returns-in-Err : goal.returns-in-Err
returns-in-Err c =
    let A = c.args in
    λ l h. turned.turn_read A.encoded.now A.route A.processor A.source.now (state_of A.memory.now A.mail.now l A.marks.now) _ c.in-Err.ensures

pub take_turn-requires : goal.take_turn-requires
take_turn-requires c = record { routed = c.in-Ok.ensures.board.routed; low = c.in-Ok.ensures.board.low; words_len = c.requires }

pub returns : goal.returns
returns c =
    let A = c.args in
    λ l h. turned.turn_past A.encoded.now A.route A.processor A.source.now (state_of A.memory.now A.mail.now l A.marks.now) _
    c.in-Ok.ensures _ (c.take_turn.ensures l h)
