-- `rolwyddac_tenant_turn_at` meets its contract: what the call over words gave, and the record that is stored has its words. A turn that gave 0 has a record there.
use Rattle.std.specs.Prelude.{ℕ, List}
use Rattle.machine.specs.Machine.{state_of}
use Rattle.tenants.specs.Tenants.{tenant_areas}
use Rattle.records.specs.Records.{flat_words}
use Rattle.calls.proofs.Opens.{record_there_at_for}
use Rattle.calls.proofs.Stores.{turn_stored}
use Rattle.calls.proofs.hour.rolwyddac_tenant_turn_at.Goals as goal

pub put-requires : goal.put-requires
put-requires c =
    record_there_at_for _ _ _ _ _ _ _ _ _ _ c.args.progress.now c.args.other.now _ _ _
    (c.turn_for-after.ensures (flat_words c.args.progress.now) (flat_words c.args.other.now) c.flatten-own.ensures c.flatten-theirs.ensures)

pub returns : goal.returns
returns c =
    let after = c.turn_for-after.new in
    turn_stored (λ (l : List ℕ). tenant_areas (state_of after.memories after.buffer l after.status) after.engaged) c.args.progress.now _ c.args.processor _
    c.turn_for-after.result _ c.put.ensures.stored c.put.ensures.number
    (c.turn_for-after.ensures (flat_words c.args.progress.now) (flat_words c.args.other.now) c.flatten-own.ensures c.flatten-theirs.ensures)
