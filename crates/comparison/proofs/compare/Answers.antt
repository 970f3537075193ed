-- Both calls' answers, and the comparison of what they left.
use Rattle.machine.specs.Machine.{state_of}
use Rattle.comparison.proofs.Laws as laws
use Rattle.comparison.proofs.compare.Goals as goal
use Rattle.comparison.proofs.compare.Goals.{then-collecting-ne0-via-then-collecting-ne0, then-collecting-ne0-via-else-collecting-ne0+then-sweeping-ne0}

pub returns-then-collecting-ne0 : goal.returns-then-collecting-ne0
returns-then-collecting-ne0 c =
    let A = c.args in
    let s = state_of A.memories.now A.buffer.now A.progress.now A.status.now in
    elim c.then-collecting-ne0.branch [
      | then-collecting-ne0-via-then-collecting-ne0 w ↦ laws.not_collected A.encoded.now A.source.now s A.grid.now A.swept.now _ _
          c.collect-collecting.result c.sweep-sweeping.result c.collect-collecting.ensures c.sweep-sweeping.ensures w.if-collecting-ne0.true
      | then-collecting-ne0-via-else-collecting-ne0+then-sweeping-ne0 w ↦ laws.not_swept A.encoded.now A.source.now s A.grid.now A.swept.now _ _
          c.collect-collecting.result c.sweep-sweeping.result c.collect-collecting.ensures c.sweep-sweeping.ensures w.if-collecting-ne0.false
          w.if-sweeping-ne0.true
    ]

pub returns : goal.returns
returns c =
    let A = c.args in
    laws.both_done A.encoded.now A.source.now (state_of A.memories.now A.buffer.now A.progress.now A.status.now) A.grid.now
    A.swept.now _ _ c.collect-collecting.result c.sweep-sweeping.result c.collect-collecting.ensures c.sweep-sweeping.ensures c.same.result
    c.if-collecting-ne0.false c.if-sweeping-ne0.false c.same.ensures
