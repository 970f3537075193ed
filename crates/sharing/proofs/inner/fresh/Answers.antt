-- A refusal writes nothing; a start clears all areas of both tenants and frees every processor.
use mathlib.Core.Path.{refl}
use Rattle.std.proofs.lemmas.Result.{err_from_is_err_and}
use Rattle.base.proofs.Codes.{code_some}
use Rattle.machine.specs.Machine.{state_of}
use Rattle.tenants.specs.Tenants.{sharing_of, sources_of}
use Rattle.sharing.proofs.Starts as starts
use Rattle.sharing.proofs.inner.fresh.Goals as goal

pub returns-in_err-check_both : goal.returns-in_err-check_both
returns-in_err-check_both c =
    let A = c.args in
    let r = err_from_is_err_and c.from_residual.result c.from_residual.ensures.1 in
    λ l q h k. rw (r.1, r.2)
    (starts.zeros_kept _ A.memories0.now A.buffer0.now A.status0.now A.memories1.now A.buffer1.now
    A.status1.now l q A.engaged.now _ (code_some _) (starts.fresh_refused A.encoded.now A.route (sources_of A.source0.now A.source1.now)
    (sharing_of (state_of A.memories0.now A.buffer0.now l A.status0.now) (state_of A.memories1.now A.buffer1.now q A.status1.now)
    A.engaged.now) _ (c.in_err-check_both.ensures l q A.engaged.now h k refl) (code_some _)))

pub returns : goal.returns
returns c =
    let A = c.args in
    λ l q h k. starts.fresh_done A.encoded.now A.route (sources_of A.source0.now A.source1.now)
    (state_of A.memories0.now A.buffer0.now l A.status0.now)
    (state_of A.memories1.now A.buffer1.now q A.status1.now) A.engaged.now 0
    (c.in_ok-check_both.ensures l q A.engaged.now h k refl)
    refl _ _ _ _ _ _ _ c.clear.ensures c.clear-2.ensures (c.fill.ensures.after (λ y e. e))
