use mathlib.Core.Path.{sym, ap}
use Rattle.machine.specs.Machine.{State, state_of, Answered}
use Rattle.engine.proofs.Reading as reading
use Rattle.engine.proofs.turn.Goals as goal

pub store_record-requires : goal.store_record-requires
store_record-requires c =
    let A = c.args in
    reading.turn_inside A.encoded.now A.route A.source.now (state_of A.memories.now A.buffer.now A.progress.now A.status.now)
    A.processor (ap (λ (z : Answered State). z.number) (sym (c.in-Ok.ensures A.progress.now c.flat_of.ensures)))
