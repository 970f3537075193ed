-- Each return is the call by the line that counts.
use mathlib.Core.Path.{refl}
use Rattle.std.proofs.lemmas.Result.{err_from_is_err_and}
use Rattle.machine.specs.Machine.{state_of}
use Rattle.plan.specs.Shaped.{plan_of}
use Rattle.base.proofs.Codes.{code_some}
use Rattle.engine.proofs.Lines as lines
use Rattle.engine.proofs.inner.deliver.Goals as goal

pub returns-in_err-table : goal.returns-in_err-table
returns-in_err-table c =
    let A = c.args in
    let e = err_from_is_err_and c.from_residual.result c.from_residual.ensures.1 in
    λ l h. rw (e.1, e.2) (lines.deliver_read A.encoded.now A.route A.source.now (state_of A.memories.now A.buffer.now l A.status.now) A.message _
    c.in_err-table.ensures.number (code_some _))

pub returns-in_err-check_areas : goal.returns-in_err-check_areas
returns-in_err-check_areas c =
    let A = c.args in
    let x = c.in_ok-table.table.layout in
    let p = plan_of x.sizes.route x.nest in
    let e = err_from_is_err_and c.from_residual-in_err-check_areas.result c.from_residual-in_err-check_areas.ensures.1 in
    λ l h. rw (e.1, e.2) (lines.deliver_unfit A.encoded.now A.route A.source.now (state_of A.memories.now A.buffer.now l A.status.now) A.message p
    c.in_ok-table.ensures.layout.opened _ (c.in_err-check_areas.ensures.0 l h) (code_some _))

pub returns : goal.returns
returns c =
    let A = c.args in
    let x = c.in_ok-table.table.layout in
    let p = plan_of x.sizes.route x.nest in
    λ l h. lines.deliver_over A.encoded.now A.route A.source.now (state_of A.memories.now A.buffer.now l A.status.now) A.message p
    c.in_ok-table.ensures.layout.opened 0 (c.in_ok-check_areas.ensures.0 l h) refl _ c.hand_over.new.status c.hand_over.ensures
