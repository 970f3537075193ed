use mathlib.Core.Path.{sym, ◌∙◌}
use Rattle.std.specs.Prelude.{◌-◌, take, drop}
use Rattle.machine.specs.Machine.{state_of}
use Rattle.plan.specs.Shaped.{plan_of}
use Rattle.engine.proofs.Lines as lines
use Rattle.engine.proofs.Reading as reading
use Rattle.engine.proofs.inner.check_areas.Goals as goal

pub returns-then-not-areas_fit : goal.returns-then-not-areas_fit
returns-then-not-areas_fit c =
    let areas_fit = c.areas_fit in
    let if1 = c.if-not-areas_fit in
    let A = c.args in (
      λ l h. lines.unfit_9 (plan_of A.table.now.layout.sizes.route A.table.now.layout.nest) A.source.now (state_of A.memories.now A.buffer.now l A.status.now)
          (sym (areas_fit.ensures.0 l h.counted) ∙ if1.true),
      tt,
    )

pub fit_records-requires : goal.fit_records-requires
fit_records-requires c =
    let areas_fit = c.areas_fit in
    let if1 = c.if-not-areas_fit in
    let A = c.args in
    let few = reading.few_words A.table.now.layout.nest A.table.now.layout.sizes c.args.table.now.layout.sized A.progress.count (areas_fit.ensures.1 (if1.false)) in
    let l = take (A.progress.count - 0) (drop 0 A.progress.words) in
    let h = reading.part_carries A.progress c.requires.words_len few in (lines.areas_are (plan_of A.table.now.layout.sizes.route A.table.now.layout.nest) A.source.now
    (state_of A.memories.now A.buffer.now l A.status.now) (sym (areas_fit.ensures.0 l h.counted) ∙ if1.false)).progress

pub returns-then-not-fit_records : goal.returns-then-not-fit_records
returns-then-not-fit_records c =
    let areas_fit = c.areas_fit in
    let if1 = c.if-not-areas_fit in
    let fit_records = c.fit_records in
    let if2 = c.if-not-fit_records in
    let A = c.args in
    let few = reading.few_words A.table.now.layout.nest A.table.now.layout.sizes c.args.table.now.layout.sized A.progress.count (areas_fit.ensures.1 (if1.false)) in (
      λ l h. lines.unfit_10 (plan_of A.table.now.layout.sizes.route A.table.now.layout.nest) A.source.now (state_of A.memories.now A.buffer.now l A.status.now)
          (sym (areas_fit.ensures.0 l h.counted) ∙ if1.false) (lines.unfit_record (plan_of A.table.now.layout.sizes.route A.table.now.layout.nest)
          (state_of A.memories.now A.buffer.now l A.status.now) (reading.fits_as (plan_of A.table.now.layout.sizes.route A.table.now.layout.nest) _ l
          (reading.part_is A.progress
          l few h) ∙ sym fit_records.ensures ∙ if2.true)),
      tt,
    )

pub returns-then-not-fit_status : goal.returns-then-not-fit_status
returns-then-not-fit_status c =
    let areas_fit = c.areas_fit in
    let if1 = c.if-not-areas_fit in
    let fit-status = c.fit_status in
    let if3 = c.if-not-fit_status in
    let A = c.args in (
      λ l h. let a = sym (areas_fit.ensures.0 l h.counted) ∙ if1.false in lines.unfit_10 (plan_of A.table.now.layout.sizes.route A.table.now.layout.nest)
          A.source.now (state_of A.memories.now A.buffer.now l A.status.now) a (lines.unfit_status (plan_of A.table.now.layout.sizes.route A.table.now.layout.nest)
          (state_of A.memories.now A.buffer.now l A.status.now) (lines.areas_are (plan_of A.table.now.layout.sizes.route A.table.now.layout.nest) A.source.now
          (state_of A.memories.now A.buffer.now l A.status.now) a).status (sym fit-status.ensures ∙ if3.true)),
      tt,
    )

pub returns : goal.returns
returns c =
    let areas_fit = c.areas_fit in
    let if1 = c.if-not-areas_fit in
    let fit_records = c.fit_records in
    let if2 = c.if-not-fit_records in
    let fit-status = c.fit_status in
    let if3 = c.if-not-fit_status in
    let A = c.args in
    let n = areas_fit.ensures.1 (if1.false) in
    let few = reading.few_words A.table.now.layout.nest A.table.now.layout.sizes c.args.table.now.layout.sized A.progress.count n in (
      λ l h. let a = sym (areas_fit.ensures.0 l h.counted) ∙ if1.false in lines.unfit_0 (plan_of A.table.now.layout.sizes.route A.table.now.layout.nest)
          A.source.now (state_of A.memories.now A.buffer.now l A.status.now) a (lines.fit_both (plan_of A.table.now.layout.sizes.route A.table.now.layout.nest)
          (state_of A.memories.now A.buffer.now l A.status.now) (lines.areas_are (plan_of A.table.now.layout.sizes.route A.table.now.layout.nest) A.source.now
          (state_of A.memories.now A.buffer.now l A.status.now) a).status (reading.fits_as (plan_of A.table.now.layout.sizes.route A.table.now.layout.nest) _ l
          (reading.part_is A.progress l few h) ∙ sym fit_records.ensures ∙ if2.false)
          (sym fit-status.ensures ∙ if3.false)),
      n,
    )
