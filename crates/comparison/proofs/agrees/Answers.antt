-- The run, then the comparison of what it left.
use Rattle.machine.specs.Machine.{state_of}
use Rattle.comparison.proofs.Laws as laws
use Rattle.comparison.proofs.agrees.Goals as goal

pub returns : goal.returns
returns c =
    let A = c.args in
    laws.then_compared A.encoded.now A.source.now A.order A.steps (state_of A.memories.now A.buffer.now A.progress.now
    A.status.now) _ A.grid.now A.swept.now _ _ c.compare.result c.run_whole.ensures c.compare.ensures
