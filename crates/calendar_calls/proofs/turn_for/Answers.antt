-- The call without the record's store, and the records as it says.
use mathlib.Core.Path.{sym, ap, ◌∙◌}
use Rattle.machine.specs.Machine.{state_of, Answered}
use Rattle.tenants.specs.Tenants.{TenantAreas, tenant_areas}
use Rattle.calendar.specs.Windows.{moment_of}
use Rattle.sharing.proofs.Starts as starts
use Rattle.calendar_calls.proofs.Lines as lines
use Rattle.calendar_calls.proofs.turn_for.Goals as goal

pub store_after-requires : goal.store_after-requires
store_after-requires c =
    let A = c.args in
    let done = c.turn_for-after.ensures A.progress.now A.theirs.now c.flat_of.ensures c.flat_of-2.ensures in
    λ z. lines.turn_inside_for A.encoded.now A.route A.source.now A.tenant (moment_of A.hours.now A.minute)
    (tenant_areas (state_of A.memories.now A.buffer.now A.progress.now A.status.now) A.engaged.now) A.theirs.now A.processor
    (ap (λ (x : Answered TenantAreas). x.number) (sym done) ∙ z)

pub returns : goal.returns
returns c =
    let A = c.args in
    let done = c.turn_for-after.ensures A.progress.now A.theirs.now c.flat_of.ensures c.flat_of-2.ensures in
    rw c.store_after.ensures.1 (starts.turn_stored c.turn_for-after.result _ _ A.progress.now _ _ A.processor _ done _ c.store_after.ensures.0)
