-- `inner::check_asking` meets its contract.
use native.Mathlib.Omega.{arith}
use mathlib.Core.Path.{sym, ◌∙◌}
use Rattle.std.specs.Prelude.{[]}
use Rattle.plan.specs.Shaped.{plan_of}
use Rattle.machine.specs.Machine.{state_of}
use Rattle.engine.proofs.Lines as lines
use Rattle.engine.proofs.Reading as reading
use Rattle.transport.proofs.Awaiting as waiting
use Rattle.transport.proofs.inner.check_asking.Goals as goal

pub overflow_mul-table : goal.overflow_mul-table
overflow_mul-table c = omega (arith, c.args.table.now.layout.sized.processors, c.args.table.now.layout.sized.accepted.processors_most)

pub returns-then-count-table-clause-lines : goal.returns-then-count-table-clause-lines
returns-then-count-table-clause-lines c =
    λ l ms h a. waiting.no_records (plan_of c.args.table.now.layout.sizes.route c.args.table.now.layout.nest) (state_of [] [] l c.args.status.now) ms
    (λ q. c.if-count-table.true (h.counted ∙ q ∙ sym (lines.records_are c.args.table.now.layout.nest c.args.table.now.layout.sizes c.args.table.now.layout.sized)))

pub returns-then-status-t-clause-lines : goal.returns-then-status-t-clause-lines
returns-then-status-t-clause-lines c =
    λ l ms h a. waiting.no_status (plan_of c.args.table.now.layout.sizes.route c.args.table.now.layout.nest) (state_of [] [] l c.args.status.now) ms
    (λ q. c.if-status-t.true (q ∙ sym c.totals-t.ensures.0))

pub returns-then-marks-t-clause-lines : goal.returns-then-marks-t-clause-lines
returns-then-marks-t-clause-lines c =
    λ l ms h a. waiting.no_marks (plan_of c.args.table.now.layout.sizes.route c.args.table.now.layout.nest) (state_of [] [] l c.args.status.now) ms
    (λ q. c.if-marks-t.true (a ∙ q ∙ sym c.totals-t.ensures.0))

pub slice_bounds-fit_records-end : goal.slice_bounds-fit_records-end
slice_bounds-fit_records-end c =
    omega (
      arith,
      c.requires,
      (reading.few_words c.args.table.now.layout.nest c.args.table.now.layout.sizes c.args.table.now.layout.sized c.args.progress.count
          (c.if-count-table.false ∙ lines.records_are c.args.table.now.layout.nest c.args.table.now.layout.sizes c.args.table.now.layout.sized)),
    )

pub fit_records-requires : goal.fit_records-requires
fit_records-requires c =
    let if1 = c.if-count-table in waiting.part_long c.args.progress c.requires
    (reading.few_words c.args.table.now.layout.nest c.args.table.now.layout.sizes c.args.table.now.layout.sized c.args.progress.count
    (if1.false ∙ lines.records_are c.args.table.now.layout.nest c.args.table.now.layout.sizes c.args.table.now.layout.sized))
    ∙ if1.false
    ∙ lines.records_are c.args.table.now.layout.nest c.args.table.now.layout.sizes c.args.table.now.layout.sized

pub returns-then-not-fit_records-clause-lines : goal.returns-then-not-fit_records-clause-lines
returns-then-not-fit_records-clause-lines c =
    let if1 = c.if-count-table in
    let totals = c.totals-t in
    λ l ms h a. waiting.unasked_10 (plan_of c.args.table.now.layout.sizes.route c.args.table.now.layout.nest) (state_of [] [] l c.args.status.now) ms
    (sym h.counted ∙ if1.false ∙ lines.records_are c.args.table.now.layout.nest c.args.table.now.layout.sizes c.args.table.now.layout.sized) (c.if-status-t.false ∙ totals.ensures.0)
    (sym a ∙ c.if-marks-t.false ∙ totals.ensures.0) (lines.unfit_record (plan_of c.args.table.now.layout.sizes.route c.args.table.now.layout.nest)
    (state_of [] [] l c.args.status.now) (reading.fits_as (plan_of c.args.table.now.layout.sizes.route c.args.table.now.layout.nest) _ l
    (reading.part_is c.args.progress l (reading.few_words c.args.table.now.layout.nest c.args.table.now.layout.sizes c.args.table.now.layout.sized c.args.progress.count
    (if1.false ∙ lines.records_are c.args.table.now.layout.nest c.args.table.now.layout.sizes c.args.table.now.layout.sized)) h) ∙ sym c.fit_records.ensures
    ∙ c.if-not-fit_records.true))

pub returns-then-not-fit_status-clause-lines : goal.returns-then-not-fit_status-clause-lines
returns-then-not-fit_status-clause-lines c =
    let if2 = c.if-status-t in
    let totals = c.totals-t in
    λ l ms h a. waiting.unasked_10 (plan_of c.args.table.now.layout.sizes.route c.args.table.now.layout.nest) (state_of [] [] l c.args.status.now) ms
    (sym h.counted ∙ c.if-count-table.false ∙ lines.records_are c.args.table.now.layout.nest c.args.table.now.layout.sizes c.args.table.now.layout.sized) (if2.false ∙ totals.ensures.0)
    (sym a ∙ c.if-marks-t.false ∙ totals.ensures.0) (lines.unfit_status (plan_of c.args.table.now.layout.sizes.route c.args.table.now.layout.nest)
    (state_of [] [] l c.args.status.now) (if2.false ∙ totals.ensures.0) (sym c.fit_status.ensures ∙ c.if-not-fit_status.true))

pub returns-clause-lines : goal.returns-clause-lines
returns-clause-lines c =
    let if1 = c.if-count-table in
    let if2 = c.if-status-t in
    let totals = c.totals-t in
    λ l ms h a. waiting.unasked_0 (plan_of c.args.table.now.layout.sizes.route c.args.table.now.layout.nest) (state_of [] [] l c.args.status.now) ms
    (sym h.counted ∙ if1.false ∙ lines.records_are c.args.table.now.layout.nest c.args.table.now.layout.sizes c.args.table.now.layout.sized) (if2.false ∙ totals.ensures.0)
    (sym a ∙ c.if-marks-t.false ∙ totals.ensures.0) (lines.fit_both (plan_of c.args.table.now.layout.sizes.route c.args.table.now.layout.nest)
    (state_of [] [] l c.args.status.now) (if2.false ∙ totals.ensures.0) (reading.fits_as (plan_of c.args.table.now.layout.sizes.route c.args.table.now.layout.nest) _ l
    (reading.part_is c.args.progress l (reading.few_words c.args.table.now.layout.nest c.args.table.now.layout.sizes c.args.table.now.layout.sized c.args.progress.count
    (if1.false ∙ lines.records_are c.args.table.now.layout.nest c.args.table.now.layout.sizes c.args.table.now.layout.sized)) h) ∙ sym c.fit_records.ensures
    ∙ c.if-not-fit_records.false) (sym c.fit_status.ensures ∙ c.if-not-fit_status.false))

pub returns-clause-count : goal.returns-clause-count
returns-clause-count c = c.if-count-table.false ∙ lines.records_are c.args.table.now.layout.nest c.args.table.now.layout.sizes c.args.table.now.layout.sized
