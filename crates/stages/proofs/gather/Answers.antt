-- The messages left to gather give the same memory and marks.
use Rattle.stages.proofs.Parts as parts
use Rattle.stages.proofs.gather.Goals as goal

pub loop-j-preserved : goal.loop-j-preserved
loop-j-preserved c =
    let A = c.args in
    let L = c.loop-j in
    parts.gather_again A.table.now.layout.sizes.route A.table.now.layout.nest A.tile A.buffer.now A.memory.now A.status.now c.count_at-n.result L.memory
    c.take_message.new.memory L.status L.j c.nth_at-place.result L.invariant c.loop-j-test.true
    c.nth_at-place.ensures c.take_message.auto.memory c.take_message.ensures

pub returns : goal.returns
returns c =
    let A = c.args in
    let L = c.loop-j in
    parts.gather_done A.table.now.layout.sizes.route A.table.now.layout.nest A.tile A.buffer.now A.memory.now A.status.now c.count_at-n.result
    L.memory L.status L.j L.invariant c.loop-j-test.false
