-- `rolwyddac_turn` meets its contract: what the call over words gave, and the record that is stored has its words. A turn that gave 0 has a record there.
use Rattle.std.specs.Prelude.{ℕ, List}
use Rattle.machine.specs.Machine.{state_of}
use Rattle.records.specs.Records.{flat_words}
use Rattle.engine.proofs.Reading.{record_there}
use Rattle.calls.proofs.Stores.{turn_stored}
use Rattle.calls.proofs.rolwyddac_turn.Goals as goal

pub put-requires : goal.put-requires
put-requires c =
    record_there _ _ _ _ _ _ c.args.progress.now _ _ _
    (c.turn-after.ensures (flat_words c.args.progress.now) c.flatten-flat.ensures)

pub returns : goal.returns
returns c =
    let after = c.turn-after.new in
    turn_stored (λ (l : List ℕ). state_of after.memories after.buffer l after.status) c.args.progress.now _ c.args.processor _ c.turn-after.result _
    c.put.ensures.stored c.put.ensures.number (c.turn-after.ensures (flat_words c.args.progress.now) c.flatten-flat.ensures)
