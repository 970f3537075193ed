-- A fresh start, and the drive from what it left.
use Rattle.machine.specs.Machine.{state_of}
use Rattle.comparison.proofs.Laws as laws
use Rattle.comparison.proofs.run_whole.Goals as goal

pub returns : goal.returns
returns c =
    let A = c.args in
    laws.run A.encoded.now A.source.now (state_of A.memories.now A.buffer.now A.progress.now A.status.now) _ _ A.order A.steps
    c.fresh.result c.fresh.ensures c.drive.ensures
