-- Each return is the first line of a fresh start that holds.
use mathlib.Core.Path.{sym, ◌∙◌}
use Rattle.std.proofs.lemmas.Result.{err_from_is_err_and}
use Rattle.base.proofs.Codes.{code_some}
use Rattle.machine.specs.Machine.{state_of}
use Rattle.plan.specs.Shaped.{plan_of}
use Rattle.tenants.specs.Tenants.{sharing_of, sources_of}
use Rattle.sharing.proofs.Starts as starts
use Rattle.sharing.proofs.admission.check_both.Goals as goal
use Rattle.sharing.proofs.admission.check_both.Goals.{then-not-areas_fit-via-then-not-areas_fit, then-not-areas_fit-via-else-not-areas_fit+then-not-areas_fit-2, then-not-areas_fit-via-else-not-areas_fit+else-not-areas_fit-2+then-shared-table}

pub returns-in_err-table : goal.returns-in_err-table
returns-in_err-table c =
    let A = c.args in
    let r = err_from_is_err_and c.from_residual.result c.from_residual.ensures.1 in
    λ l q e h k w. rw (r.1, r.2)
    (starts.number_read A.encoded.now A.route (sources_of A.source0.now A.source1.now)
    (sharing_of (state_of A.memories0.now A.buffer0.now l A.status0.now) (state_of A.memories1.now A.buffer1.now q A.status1.now) e)
    _ c.in_err-table.ensures.number (code_some _))

pub returns-then-not-areas_fit : goal.returns-then-not-areas_fit
returns-then-not-areas_fit c =
    let A = c.args in
    let table = c.in_ok-table.table in
    let p = plan_of table.layout.sizes.route table.layout.nest in
    let op = c.in_ok-table.ensures.layout.opened in
    let sources = sources_of A.source0.now A.source1.now in
    elim c.then-not-areas_fit.branch [
      | then-not-areas_fit-via-then-not-areas_fit w ↦
          λ l q e h k n. starts.number_area A.encoded.now A.route sources (sharing_of (state_of A.memories0.now A.buffer0.now l A.status0.now)
          (state_of A.memories1.now A.buffer1.now q A.status1.now) e) p op
          (starts.no_first p sources (sharing_of (state_of A.memories0.now A.buffer0.now l A.status0.now)
          (state_of A.memories1.now A.buffer1.now q A.status1.now) e) (sym (c.areas_fit.ensures.0 l h) ∙ w.if-not-areas_fit.true))
      | then-not-areas_fit-via-else-not-areas_fit+then-not-areas_fit-2 w ↦
          λ l q e h k n. starts.number_area A.encoded.now A.route sources (sharing_of (state_of A.memories0.now A.buffer0.now l A.status0.now)
          (state_of A.memories1.now A.buffer1.now q A.status1.now) e) p op
          (starts.no_second p sources (sharing_of (state_of A.memories0.now A.buffer0.now l A.status0.now)
          (state_of A.memories1.now A.buffer1.now q A.status1.now) e) (sym (w.areas_fit-else-not-areas_fit.ensures.0 q k) ∙ w.if-not-areas_fit-2.true))
      | then-not-areas_fit-via-else-not-areas_fit+else-not-areas_fit-2+then-shared-table w ↦
          λ l q e h k n. starts.number_area A.encoded.now A.route sources (sharing_of (state_of A.memories0.now A.buffer0.now l A.status0.now)
          (state_of A.memories1.now A.buffer1.now q A.status1.now) e) p op
          (starts.no_shared p sources (sharing_of (state_of A.memories0.now A.buffer0.now l A.status0.now)
          (state_of A.memories1.now A.buffer1.now q A.status1.now) e)
          (λ is. w.if-shared-table.true (n ∙ is ∙ sym table.layout.sized.processors)))
    ]

pub returns : goal.returns
returns c =
    let A = c.args in
    let table = c.in_ok-table.table in
    let p = plan_of table.layout.sizes.route table.layout.nest in
    let op = c.in_ok-table.ensures.layout.opened in
    λ l q e h k w. starts.number_none A.encoded.now A.route (sources_of A.source0.now A.source1.now)
    (sharing_of (state_of A.memories0.now A.buffer0.now l A.status0.now) (state_of A.memories1.now A.buffer1.now q A.status1.now) e)
    p op (starts.all_there p (sources_of A.source0.now A.source1.now)
    (sharing_of (state_of A.memories0.now A.buffer0.now l A.status0.now) (state_of A.memories1.now A.buffer1.now q A.status1.now) e)
    (sym (c.areas_fit.ensures.0 l h) ∙ c.if-not-areas_fit.false)
    (sym (c.areas_fit-else-not-areas_fit.ensures.0 q k) ∙ c.if-not-areas_fit-2.false) (sym w ∙ c.if-shared-table.false ∙ table.layout.sized.processors))
