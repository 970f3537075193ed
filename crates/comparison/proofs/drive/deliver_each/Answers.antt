-- After each delivery: the pass so far.
use Rattle.machine.specs.Machine.{state_of}
use Rattle.comparison.proofs.drive.Steps as steps
use Rattle.comparison.proofs.drive.deliver_each.Goals as goal

pub loop-message-init : goal.loop-message-init
loop-message-init c =
    let A = c.args in
    steps.deliveries_start A.encoded.now A.source.now (state_of A.memories.now A.buffer.now A.progress.now A.status.now)

pub loop-message-preserved : goal.loop-message-preserved
loop-message-preserved c =
    let A = c.args in
    let X = c.loop-message in
    let G = c.deliver_one-done in
    steps.deliveries_next A.encoded.now A.source.now (state_of A.memories.now
    A.buffer.now A.progress.now A.status.now) X.message X.delivered G.result c.noted-delivered.result (state_of A.memories.now
    A.buffer.now A.progress.now X.status) _ X.invariant G.ensures c.noted-delivered.ensures
