-- Each return is the call by the line that counts.
use Rattle.std.specs.Prelude.{◌-◌, take, drop}
use mathlib.Core.Path.{refl}
use native.Mathlib.Omega.{arith}
use Rattle.std.proofs.lemmas.Result.{err_from_is_err_and}
use Rattle.base.proofs.Codes.{code_some}
use Rattle.machine.specs.Machine.{state_of}
use Rattle.plan.specs.Shaped.{plan_of}
use Rattle.tenants.specs.Tenants.{tenant_areas}
use Rattle.tenants.proofs.OneCall.{own_fits}
use Rattle.engine.proofs.Reading as reading
use Rattle.sharing.proofs.Lines as lines
use Rattle.sharing.proofs.inner.turn.Goals as goal

pub returns-in_err-table : goal.returns-in_err-table
returns-in_err-table c =
    let A = c.args in
    let e = err_from_is_err_and c.from_residual.result c.from_residual.ensures.1 in
    λ l q h k. rw (e.1, e.2)
    (lines.turn_read A.encoded.now A.route A.source.now A.tenant (tenant_areas (state_of A.memories.now A.buffer.now l A.status.now)
    A.engaged.now) q A.processor _ c.in_err-table.ensures.number (code_some _))

pub returns-in_err-check_turn : goal.returns-in_err-check_turn
returns-in_err-check_turn c =
    let A = c.args in
    let table = c.in_ok-table.table in
    let p = plan_of table.layout.sizes.route table.layout.nest in
    let e = err_from_is_err_and c.from_residual-in_err-check_turn.result c.from_residual-in_err-check_turn.ensures.1 in
    λ l q h k. rw (e.1, e.2)
    (lines.turn_barred A.encoded.now A.route A.source.now A.tenant (tenant_areas (state_of A.memories.now A.buffer.now l A.status.now)
    A.engaged.now) q A.processor p c.in_ok-table.ensures.layout.opened _ (c.in_err-check_turn.ensures.0 l q h k) (code_some _))

pub slice_bounds-step_for-end : goal.slice_bounds-step_for-end
slice_bounds-step_for-end c =
    let A = c.args in
    let few = reading.few_words _ _ c.in_ok-table.table.layout.sized A.progress.count c.in_ok-check_turn.ensures.1.0 in
    omega (arith, c.requires.0, few)

pub step_for-requires : goal.step_for-requires
step_for-requires c =
    let A = c.args in
    let table = c.in_ok-table.table in
    let counts = c.in_ok-check_turn.ensures.1 in
    let few = reading.few_words _ _ table.layout.sized A.progress.count counts.0 in
    let p = plan_of table.layout.sizes.route table.layout.nest in
    let own = take (A.progress.count - 0) (drop 0 A.progress.words) in
    let other = take (A.theirs.count - 0) (drop 0 A.theirs.words) in
    let few2 = reading.few_words _ _ table.layout.sized A.theirs.count counts.1 in
    let free = lines.barred_none p A.source.now A.tenant (tenant_areas (state_of A.memories.now A.buffer.now own A.status.now)
    A.engaged.now)
    other A.processor 0 (c.in_ok-check_turn.ensures.0 own other
    (reading.part_carries A.progress c.requires.0 few)
    (reading.part_carries A.theirs c.requires.1 few2)) refl in record {
      may_turn = record {
        areas = free.lengths.own;
        fit = own_fits p A.tenant (tenant_areas (state_of A.memories.now A.buffer.now own A.status.now) A.engaged.now) other free.fits;
        processor = free.low;
      };
      b_in_bounds = omega (arith, free.lengths.engaged, free.low);
    }

pub returns : goal.returns
returns c =
    let step-for = c.step_for in
    let A = c.args in
    let table = c.in_ok-table.table in
    let counts = c.in_ok-check_turn.ensures.1 in
    let few = reading.few_words _ _ table.layout.sized A.progress.count counts.0 in
    let p = plan_of table.layout.sizes.route table.layout.nest in
    let own = take (A.progress.count - 0) (drop 0 A.progress.words) in
    let other = take (A.theirs.count - 0) (drop 0 A.theirs.words) in
    let few2 = reading.few_words _ _ table.layout.sized A.theirs.count counts.1 in
    let free = lines.barred_none p A.source.now A.tenant (tenant_areas (state_of A.memories.now A.buffer.now own A.status.now)
    A.engaged.now)
    other A.processor 0 (c.in_ok-check_turn.ensures.0 own other
    (reading.part_carries A.progress c.requires.0 few)
    (reading.part_carries A.theirs c.requires.1 few2)) refl in
    λ l q h k. lines.turn_as A.encoded.now A.route A.source.now A.tenant A.memories.now A.buffer.now A.status.now A.engaged.now
    own l other q A.processor (reading.part_is A.progress l few h) (reading.part_is A.theirs q few2 k) step-for.result
    step-for.new.memories step-for.new.buffer step-for.new.status step-for.new.engaged
    (lines.turn_steps A.encoded.now A.route A.source.now A.tenant (tenant_areas (state_of A.memories.now A.buffer.now own A.status.now)
    A.engaged.now) other
    A.processor p c.in_ok-table.ensures.layout.opened free step-for.result step-for.new.memories step-for.new.buffer step-for.new.status
    step-for.new.engaged step-for.ensures.0 step-for.ensures.1)
