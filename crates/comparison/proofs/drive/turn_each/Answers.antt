-- After each turn: the pass so far.
use Rattle.machine.specs.Machine.{state_of}
use Rattle.comparison.proofs.drive.Steps as steps
use Rattle.comparison.proofs.drive.turn_each.Goals as goal

pub loop-place-init : goal.loop-place-init
loop-place-init c =
    let A = c.args in
    steps.turns_start A.encoded.now A.source.now (state_of A.memories.now A.buffer.now A.progress.now A.status.now) A.processors A.falling

pub loop-place-preserved : goal.loop-place-preserved
loop-place-preserved c =
    let A = c.args in
    let X = c.loop-place in
    let G = c.turn-answer in
    steps.turns_next A.encoded.now A.source.now (state_of A.memories.now A.buffer.now A.progress.now A.status.now)
    A.processors A.falling X.place X.taken c.noted-taken.result (state_of X.memories X.buffer X.progress X.status) _
    c.in_order-processor.result G.result X.invariant c.in_order-processor.ensures G.ensures c.noted-taken.ensures
