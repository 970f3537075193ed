-- The call without the record's store, and the records as it says.
use mathlib.Core.Path.{sym, ap, ◌∙◌}
use Rattle.machine.specs.Machine.{State, state_of, Answered}
use Rattle.calendar.specs.Windows.{moment_of}
use Rattle.calendar_calls.proofs.Lines as lines
use Rattle.calendar_calls.proofs.turn.Goals as goal

pub store_after-requires : goal.store_after-requires
store_after-requires c =
    let A = c.args in
    let done = c.turn-after.ensures A.progress.now c.flat_of.ensures in
    λ z. lines.turn_inside A.encoded.now A.route A.source.now (moment_of A.hours.now A.minute)
    (state_of A.memories.now A.buffer.now A.progress.now A.status.now) A.processor
    (ap (λ (x : Answered State). x.number) (sym done) ∙ z)

pub returns : goal.returns
returns c =
    let A = c.args in
    let done = c.turn-after.ensures A.progress.now c.flat_of.ensures in
    rw c.store_after.ensures.1 (lines.turn_stored c.turn-after.result _ _ A.progress.now _ A.processor _ done _ c.store_after.ensures.0)
