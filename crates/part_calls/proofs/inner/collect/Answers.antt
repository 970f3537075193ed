-- `inner::collect` meets its contract: each return by the line that counts.
use Rattle.std.specs.Prelude.{[]}
use Rattle.machine.specs.Machine.{state_of}
use Rattle.part_calls.proofs.Answers as answers
use Rattle.part_calls.proofs.inner.collect.Goals as goal

pub collect_part-requires : goal.collect_part-requires
collect_part-requires c = record { routed = c.in-Ok.ensures.board.routed; low = (c.in-Ok.ensures.board.low, c.requires) }

pub returns-in-Ok : goal.returns-in-Ok
returns-in-Ok c =
    let A = c.args in
    λ l h. answers.collect_past A.encoded.now A.route A.processor (state_of A.memory.now [] l []) A.grid.now _ c.in-Ok.ensures _
    (rw c.number_of.ensures (c.collect_part.ensures l h))

pub returns-in-Err : goal.returns-in-Err
returns-in-Err c =
    let A = c.args in
    λ l h. rw c.number.ensures
    (answers.collect_read A.encoded.now A.route A.processor (state_of A.memory.now [] l []) A.grid.now _ c.in-Err.ensures)
