-- Each return is the call by the line that counts.
use mathlib.Core.Path.{refl}
use Rattle.std.proofs.lemmas.Result.{err_from_is_err_and}
use Rattle.base.proofs.Codes.{code_some}
use Rattle.machine.specs.Machine.{state_of}
use Rattle.plan.specs.Shaped.{plan_of}
use Rattle.tenants.specs.Tenants.{tenant_areas}
use Rattle.sharing.proofs.Lines as lines
use Rattle.sharing.proofs.inner.deliver.Goals as goal

pub returns-in_err-table : goal.returns-in_err-table
returns-in_err-table c =
    let A = c.args in
    let e = err_from_is_err_and c.from_residual.result c.from_residual.ensures.1 in
    λ l q h k. rw (e.1, e.2)
    (lines.deliver_read A.encoded.now A.route A.source.now A.tenant (tenant_areas (state_of A.memories.now A.buffer.now l
    A.status.now) A.engaged.now) q A.message _ c.in_err-table.ensures.number (code_some _))

pub returns-in_err-check_areas : goal.returns-in_err-check_areas
returns-in_err-check_areas c =
    let A = c.args in
    let table = c.in_ok-table.table in
    let p = plan_of table.layout.sizes.route table.layout.nest in
    let e = err_from_is_err_and c.from_residual-in_err-check_areas.result c.from_residual-in_err-check_areas.ensures.1 in
    λ l q h k. rw (e.1, e.2)
    (lines.deliver_unfit A.encoded.now A.route A.source.now A.tenant (tenant_areas (state_of A.memories.now A.buffer.now l
    A.status.now) A.engaged.now) q A.message p c.in_ok-table.ensures.layout.opened _ (c.in_err-check_areas.ensures.0 l q h k)
    (code_some _))

pub returns : goal.returns
returns c =
    let A = c.args in
    let table = c.in_ok-table.table in
    let p = plan_of table.layout.sizes.route table.layout.nest in
    λ l q h k. lines.deliver_over A.encoded.now A.route A.source.now A.tenant (tenant_areas (state_of A.memories.now A.buffer.now l
    A.status.now) A.engaged.now) q A.message p c.in_ok-table.ensures.layout.opened 0 (c.in_ok-check_areas.ensures.0 l q h k)
    refl _ c.hand_over.new.status c.hand_over.ensures
