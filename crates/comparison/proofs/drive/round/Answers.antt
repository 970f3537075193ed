-- The turns; where none was taken, the deliveries behind them.
use Rattle.machine.specs.Machine.{state_of}
use Rattle.comparison.proofs.drive.Steps as steps
use Rattle.comparison.proofs.drive.round.Goals as goal

pub returns-then-turn_each : goal.returns-then-turn_each
returns-then-turn_each c =
    let A = c.args in
    let G = c.turn_each in
    rw c.if-turn_each.true
    (steps.round_turns A.encoded.now A.source.now (state_of A.memories.now A.buffer.now A.progress.now A.status.now) A.order
    G.result (state_of G.new.memories G.new.buffer G.new.progress G.new.status) G.ensures c.if-turn_each.true)

pub returns-else-turn_each : goal.returns-else-turn_each
returns-else-turn_each c =
    let A = c.args in
    let G = c.turn_each in
    let D = c.deliver_each in
    steps.round_both A.encoded.now A.source.now (state_of A.memories.now A.buffer.now A.progress.now A.status.now) A.order
    G.result D.result (state_of G.new.memories G.new.buffer G.new.progress G.new.status) _ G.ensures
    c.if-turn_each.false D.ensures
