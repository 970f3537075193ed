-- Each return is the part of line 10 that decides.
use mathlib.Core.Path.{sym, ◌∙◌}
use Rattle.std.specs.Prelude.{[]}
use Rattle.machine.specs.Machine.{state_of}
use Rattle.plan.specs.Shaped.{plan_of}
use Rattle.tenants.specs.Tenants.{tenant_areas}
use Rattle.engine.proofs.Lines as areas
use Rattle.sharing.proofs.Lines as lines
use Rattle.sharing.proofs.admission.fit_sharing.Goals as goal

pub returns-then-not-fit_records : goal.returns-then-not-fit_records
returns-then-not-fit_records c =
    let fit_records = c.fit_records in
    let if1 = c.if-not-fit_records in
    let A = c.args in
    let p = plan_of A.table.now.layout.sizes.route A.table.now.layout.nest in
    let s = state_of [] [] A.progress.now A.status.now in
    lines.unfit_own p A.tenant (tenant_areas s A.engaged.now) A.theirs.now
    (areas.unfit_record p s (sym fit_records.ensures ∙ if1.true))

pub returns-then-not-fit_status : goal.returns-then-not-fit_status
returns-then-not-fit_status c =
    let fit-status = c.fit_status in
    let if2 = c.if-not-fit_status in
    let A = c.args in
    let p = plan_of A.table.now.layout.sizes.route A.table.now.layout.nest in
    let s = state_of [] [] A.progress.now A.status.now in
    lines.unfit_own p A.tenant (tenant_areas s A.engaged.now) A.theirs.now
    (areas.unfit_status p s c.requires.progress_len.1 (sym fit-status.ensures ∙ if2.true))

pub returns-then-not-fit_records-2 : goal.returns-then-not-fit_records-2
returns-then-not-fit_records-2 c =
    let fit-records2 = c.fit_records-2 in
    let if3 = c.if-not-fit_records-2 in
    let A = c.args in
    let p = plan_of A.table.now.layout.sizes.route A.table.now.layout.nest in
    let s = state_of [] [] A.progress.now A.status.now in
    lines.unfit_theirs p A.tenant (tenant_areas s A.engaged.now) A.theirs.now (sym fit-records2.ensures ∙ if3.true)

pub returns : goal.returns
returns c =
    let fit_records = c.fit_records in
    let if1 = c.if-not-fit_records in
    let fit-status = c.fit_status in
    let if2 = c.if-not-fit_status in
    let fit-records2 = c.fit_records-2 in
    let if3 = c.if-not-fit_records-2 in
    let fit_words = c.fit_words in
    let A = c.args in
    let p = plan_of A.table.now.layout.sizes.route A.table.now.layout.nest in
    let s = state_of [] [] A.progress.now A.status.now in
    lines.by_words p A.tenant (tenant_areas s A.engaged.now) A.theirs.now (areas.fit_both p s c.requires.progress_len.1 (sym fit_records.ensures
    ∙ if1.false) (sym fit-status.ensures ∙ if2.false)) (sym fit-records2.ensures ∙ if3.false)
    fit_words.result fit_words.ensures c.requires.engaged_len.0
