-- Each return is the first of lines 9, 11 and 10 that holds.
use Rattle.std.specs.Prelude.{◌-◌, take, drop}
use mathlib.Core.Path.{sym, ◌∙◌}
use native.Mathlib.Omega.{arith}
use borrow.Author.Tests.{le-leb, lt-leb}
use Rattle.machine.specs.Machine.{state_of}
use Rattle.plan.specs.Shaped.{plan_of}
use Rattle.tenants.specs.Tenants.{tenant_areas}
use Rattle.engine.proofs.Lines as areas
use Rattle.engine.proofs.Reading as reading
use Rattle.sharing.proofs.Lines as lines
use Rattle.sharing.proofs.admission.check_areas.Goals as goal
use Rattle.sharing.proofs.admission.check_areas.Goals.{then-not-areas_fit-via-then-not-areas_fit, then-not-areas_fit-via-else-not-areas_fit+then-engaged-processors, then-not-areas_fit-via-else-not-areas_fit+else-engaged-processors+then-others-processors}

pub returns-then-not-areas_fit : goal.returns-then-not-areas_fit
returns-then-not-areas_fit c =
    let A = c.args in
    let sized = A.table.now.layout.sized in
    let p = plan_of A.table.now.layout.sizes.route A.table.now.layout.nest in
    elim c.then-not-areas_fit.branch [
      | then-not-areas_fit-via-then-not-areas_fit w ↦ (
        λ l q h k. lines.unfit_9 p A.source.now A.tenant (tenant_areas (state_of A.memories.now A.buffer.now l A.status.now) A.engaged.now) q
            (lines.no_own p A.source.now (tenant_areas (state_of A.memories.now A.buffer.now l A.status.now) A.engaged.now) q
            (sym (c.areas_fit.ensures.0 l h.counted) ∙ w.if-not-areas_fit.true)),
        tt,
      )
      | then-not-areas_fit-via-else-not-areas_fit+then-engaged-processors w ↦ (
        λ l q h k. lines.unfit_9 p A.source.now A.tenant (tenant_areas (state_of A.memories.now A.buffer.now l A.status.now) A.engaged.now) q
            (lines.no_words p A.source.now (tenant_areas (state_of A.memories.now A.buffer.now l A.status.now) A.engaged.now) q
            (λ e. w.if-engaged-processors.true (e ∙ sym sized.processors))),
        tt,
      )
      | then-not-areas_fit-via-else-not-areas_fit+else-engaged-processors+then-others-processors w ↦ (
        λ l q h k. lines.unfit_9 p A.source.now A.tenant (tenant_areas (state_of A.memories.now A.buffer.now l A.status.now) A.engaged.now) q
            (lines.no_theirs p A.source.now (tenant_areas (state_of A.memories.now A.buffer.now l A.status.now) A.engaged.now) q
            (λ e. w.if-others-processors.true (k.counted ∙ e ∙ sym (areas.records_are A.table.now.layout.nest A.table.now.layout.sizes sized)))),
        tt,
      )
    ]

pub returns-then-tenant-gt1 : goal.returns-then-tenant-gt1
returns-then-tenant-gt1 c =
    let areas_fit = c.areas_fit in
    let if1 = c.if-not-areas_fit in
    let if2 = c.if-engaged-processors in
    let if3 = c.if-others-processors in
    let if4 = c.if-tenant-gt1 in
    let A = c.args in
    let p = plan_of A.table.now.layout.sizes.route A.table.now.layout.nest in (
      λ l q h k. lines.unfit_11 p A.source.now A.tenant (tenant_areas (state_of A.memories.now A.buffer.now l A.status.now) A.engaged.now)
          q
          (lines.all_long p A.source.now (tenant_areas (state_of A.memories.now A.buffer.now l A.status.now) A.engaged.now) q
          (sym (areas_fit.ensures.0 l h.counted) ∙ if1.false) (if2.false ∙ c.args.table.now.layout.sized.processors) (sym k.counted ∙ if3.false
          ∙ areas.records_are A.table.now.layout.nest A.table.now.layout.sizes c.args.table.now.layout.sized)) (lt-leb _ _ if4.true),
      tt,
    )

pub slice_bounds-fit_sharing-end : goal.slice_bounds-fit_sharing-end
slice_bounds-fit_sharing-end c =
    let areas_fit = c.areas_fit in
    let if1 = c.if-not-areas_fit in
    let A = c.args in
    omega (arith, c.requires.words_len.0, reading.few_words A.table.now.layout.nest A.table.now.layout.sizes c.args.table.now.layout.sized A.progress.count (areas_fit.ensures.1 (if1.false)))

pub fit_sharing-requires : goal.fit_sharing-requires
fit_sharing-requires c =
    let areas_fit = c.areas_fit in
    let if1 = c.if-not-areas_fit in
    let if3 = c.if-others-processors in
    let if2 = c.if-engaged-processors in
    let if4 = c.if-tenant-gt1 in
    let A = c.args in
    let p = plan_of A.table.now.layout.sizes.route A.table.now.layout.nest in
    let own = take (A.progress.count - 0) (drop 0 A.progress.words) in
    let other = take (A.theirs.count - 0) (drop 0 A.theirs.words) in
    let n = (areas_fit.ensures.1 (if1.false)) in
    let few = reading.few_words A.table.now.layout.nest A.table.now.layout.sizes c.args.table.now.layout.sized A.progress.count n in
    let few2 = reading.few_words A.table.now.layout.nest A.table.now.layout.sizes c.args.table.now.layout.sized A.theirs.count (if3.false ∙ areas.records_are A.table.now.layout.nest A.table.now.layout.sizes c.args.table.now.layout.sized) in
    let h = reading.part_carries A.progress c.requires.words_len.0 few in
    let k = reading.part_carries A.theirs c.requires.words_len.1 few2 in
    let lengths = areas.areas_are p A.source.now (state_of A.memories.now A.buffer.now own A.status.now)
    (sym (areas_fit.ensures.0 own h.counted) ∙ if1.false) in record {
      progress_len = (lengths.progress, lengths.status);
      engaged_len = (
        if2.false ∙ c.args.table.now.layout.sized.processors,
        (
          sym k.counted ∙ if3.false ∙ areas.records_are A.table.now.layout.nest
              A.table.now.layout.sizes c.args.table.now.layout.sized,
          omega (arith, if4.false),
        ),
      );
    }

pub returns-then-not-fit_sharing : goal.returns-then-not-fit_sharing
returns-then-not-fit_sharing c =
    let areas_fit = c.areas_fit in
    let if1 = c.if-not-areas_fit in
    let if3 = c.if-others-processors in
    let if2 = c.if-engaged-processors in
    let if4 = c.if-tenant-gt1 in
    let fit-sharing = c.fit_sharing in
    let if5 = c.if-not-fit_sharing in
    let A = c.args in
    let p = plan_of A.table.now.layout.sizes.route A.table.now.layout.nest in
    let own = take (A.progress.count - 0) (drop 0 A.progress.words) in
    let other = take (A.theirs.count - 0) (drop 0 A.theirs.words) in
    let n = (areas_fit.ensures.1 (if1.false)) in
    let few = reading.few_words A.table.now.layout.nest A.table.now.layout.sizes c.args.table.now.layout.sized A.progress.count n in
    let few2 = reading.few_words A.table.now.layout.nest A.table.now.layout.sizes c.args.table.now.layout.sized A.theirs.count (if3.false ∙ areas.records_are A.table.now.layout.nest A.table.now.layout.sizes c.args.table.now.layout.sized) in (
      λ l q h k. lines.unfit_10 p A.source.now A.tenant (tenant_areas (state_of A.memories.now A.buffer.now l A.status.now) A.engaged.now)
          q
          (lines.all_long p A.source.now (tenant_areas (state_of A.memories.now A.buffer.now l A.status.now) A.engaged.now) q
          (sym (areas_fit.ensures.0 l h.counted) ∙ if1.false) (if2.false ∙ c.args.table.now.layout.sized.processors) (sym k.counted ∙ if3.false
          ∙ areas.records_are A.table.now.layout.nest A.table.now.layout.sizes c.args.table.now.layout.sized)) (le-leb A.tenant 1 (omega (arith, if4.false)))
          (sym (lines.fit_as p A.tenant A.memories.now A.buffer.now own l A.status.now A.engaged.now other q (reading.part_is A.progress l
          few h) (reading.part_is A.theirs q few2 k)) ∙ sym fit-sharing.ensures ∙ if5.true),
      tt,
    )

pub returns : goal.returns
returns c =
    let areas_fit = c.areas_fit in
    let if1 = c.if-not-areas_fit in
    let if3 = c.if-others-processors in
    let if2 = c.if-engaged-processors in
    let if4 = c.if-tenant-gt1 in
    let fit-sharing = c.fit_sharing in
    let if5 = c.if-not-fit_sharing in
    let A = c.args in
    let p = plan_of A.table.now.layout.sizes.route A.table.now.layout.nest in
    let own = take (A.progress.count - 0) (drop 0 A.progress.words) in
    let other = take (A.theirs.count - 0) (drop 0 A.theirs.words) in
    let n = (areas_fit.ensures.1 (if1.false)) in
    let few = reading.few_words A.table.now.layout.nest A.table.now.layout.sizes c.args.table.now.layout.sized A.progress.count n in
    let few2 = reading.few_words A.table.now.layout.nest A.table.now.layout.sizes c.args.table.now.layout.sized A.theirs.count (if3.false ∙ areas.records_are A.table.now.layout.nest A.table.now.layout.sizes c.args.table.now.layout.sized) in (
      λ l q h k. lines.unfit_0 p A.source.now A.tenant (tenant_areas (state_of A.memories.now A.buffer.now l A.status.now) A.engaged.now) q
          (lines.all_long p A.source.now (tenant_areas (state_of A.memories.now A.buffer.now l A.status.now) A.engaged.now) q
          (sym (areas_fit.ensures.0 l h.counted) ∙ if1.false) (if2.false ∙ c.args.table.now.layout.sized.processors) (sym k.counted ∙ if3.false
          ∙ areas.records_are A.table.now.layout.nest A.table.now.layout.sizes c.args.table.now.layout.sized)) (le-leb A.tenant 1 (omega (arith, if4.false)))
          (sym (lines.fit_as p A.tenant A.memories.now A.buffer.now own l A.status.now A.engaged.now other q (reading.part_is A.progress l
          few h) (reading.part_is A.theirs q few2 k)) ∙ sym fit-sharing.ensures ∙ if5.false),
      (
        n,
        if3.false ∙ areas.records_are A.table.now.layout.nest
            A.table.now.layout.sizes c.args.table.now.layout.sized,
      ),
    )
