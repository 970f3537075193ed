-- A message that is not in flight would be refused.
use mathlib.Core.Path.{sym, ◌∙◌}
use Rattle.machine.specs.Machine.{state_of}
use Rattle.comparison.proofs.drive.Steps as steps
use Rattle.comparison.proofs.drive.deliver_one.Goals as goal

pub returns-then-in_flight : goal.returns-then-in_flight
returns-then-in_flight c =
    let A = c.args in
    steps.delivered A.encoded.now A.source.now (state_of A.memories.now A.buffer.now A.progress.now A.status.now) A.message
    c.deliver.result _ c.deliver.ensures

pub returns-else-in_flight : goal.returns-else-in_flight
returns-else-in_flight c =
    let A = c.args in
    rw c.if-in_flight.false
    (steps.not_delivered A.encoded.now A.source.now (state_of A.memories.now A.buffer.now A.progress.now A.status.now) A.message
    (sym c.in_flight.ensures ∙ c.if-in_flight.false))
