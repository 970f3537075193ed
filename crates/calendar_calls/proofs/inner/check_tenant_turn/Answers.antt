-- Each return is the first line that holds, up to the machine's.
use Rattle.std.specs.Prelude.{ℕ, ◌-◌, ◌*◌, take, drop}
use mathlib.Core.Path.{refl, sym, ap, ◌∙◌}
use native.Mathlib.Omega.{arith}
use borrow.Author.Tests.{leb-true}
use Rattle.std.proofs.lemmas.Result.{err_from_is_err_and}
use Rattle.base.specs.Numbers.{first_of}
use Rattle.base.proofs.Codes.{code_some}
use Rattle.machine.specs.Machine.{state_of}
use Rattle.plan.specs.Shaped.{plan_of}
use Rattle.tenants.specs.Tenants.{tenant_areas}
use Rattle.calendar.specs.Windows.{moment_of}
use Rattle.engine.proofs.Reading as reading
use Rattle.sharing.proofs.Lines as plain
use Rattle.calendar_calls.specs.Given.{hour_lines}
use Rattle.calendar_calls.proofs.Lines as lines
use Rattle.calendar_calls.proofs.inner.check_tenant_turn.Goals as goal

pub overflow_mul-n : goal.overflow_mul-n
overflow_mul-n c = omega (arith, c.args.table.now.layout.sized.processors, c.args.table.now.layout.sized.accepted.processors_most)

pub returns-then-hours-n : goal.returns-then-hours-n
returns-then-hours-n c =
    let A = c.args in
    let p = plan_of A.table.now.layout.sizes.route A.table.now.layout.nest in (
      λ l q h k. lines.away_nine_for p A.source.now A.tenant (moment_of A.hours.now A.minute)
          (tenant_areas (state_of A.memories.now A.buffer.now l A.status.now) A.engaged.now) q A.b
          (λ i. c.if-hours-n.true (i ∙ ap (λ (n : ℕ). 28 * n) (sym c.args.table.now.layout.sized.processors))),
      tt,
    )

pub returns-in_err-check_areas : goal.returns-in_err-check_areas
returns-in_err-check_areas c =
    let A = c.args in
    let p = plan_of A.table.now.layout.sizes.route A.table.now.layout.nest in
    let long = c.if-hours-n.false ∙ ap (λ (n : ℕ). 28 * n) c.args.table.now.layout.sized.processors in
    let e = err_from_is_err_and c.from_residual.result c.from_residual.ensures.1 in
    rw (e.1, e.2) (
      λ l q h k. lines.away_unfit_for p A.source.now A.tenant (moment_of A.hours.now A.minute)
          (tenant_areas (state_of A.memories.now A.buffer.now l A.status.now) A.engaged.now) q A.b long
          _ (c.in_err-check_areas.ensures.0 l q h k) (code_some _),
      tt,
    )

pub check_minute-requires : goal.check_minute-requires
check_minute-requires c = (omega (arith, c.args.table.now.layout.sized.processors, c.args.table.now.layout.sized.accepted.processors_most), c.if-hours-n.false)

pub returns-in_err-check_minute : goal.returns-in_err-check_minute
returns-in_err-check_minute c =
    let A = c.args in
    let p = plan_of A.table.now.layout.sizes.route A.table.now.layout.nest in
    let long = c.if-hours-n.false ∙ ap (λ (n : ℕ). 28 * n) c.args.table.now.layout.sized.processors in
    let hours = c.in_err-check_minute.ensures ∙ ap (λ (n : ℕ). first_of (hour_lines n (moment_of A.hours.now A.minute) A.b)) c.args.table.now.layout.sized.processors in
    let e = err_from_is_err_and c.from_residual-in_err-check_minute.result c.from_residual-in_err-check_minute.ensures.1 in
    rw (e.1, e.2) (
      λ l q h k. lines.away_shut_for p A.source.now A.tenant (moment_of A.hours.now A.minute)
          (tenant_areas (state_of A.memories.now A.buffer.now l A.status.now) A.engaged.now) q A.b long
          0 (c.in_ok-check_areas.ensures.0 l q h k) refl _ hours (code_some _),
      tt,
    )

pub slice_bounds-held_by_other-end : goal.slice_bounds-held_by_other-end
slice_bounds-held_by_other-end c =
    let A = c.args in
    let counts = c.in_ok-check_areas.ensures.1 in
    let few = reading.few_words _ _ c.args.table.now.layout.sized A.progress.count counts.0 in
    omega (arith, c.requires.words_len.0, few)

pub held_by_other-requires : goal.held_by_other-requires
held_by_other-requires c =
    let A = c.args in
    let p = plan_of A.table.now.layout.sizes.route A.table.now.layout.nest in
    let counts = c.in_ok-check_areas.ensures.1 in
    let few = reading.few_words _ _ c.args.table.now.layout.sized A.progress.count counts.0 in
    let few2 = reading.few_words _ _ c.args.table.now.layout.sized A.theirs.count counts.1 in
    let own = take (A.progress.count - 0) (drop 0 A.progress.words) in
    let other = take (A.theirs.count - 0) (drop 0 A.theirs.words) in
    let hours = c.in_ok-check_minute.ensures ∙ ap (λ (n : ℕ). first_of (hour_lines n (moment_of A.hours.now A.minute) A.b)) c.args.table.now.layout.sized.processors in
    let now = lines.hours_none p.processors (moment_of A.hours.now A.minute) A.b 0 hours refl in
    let none = plain.unfit_none p A.source.now A.tenant (tenant_areas (state_of A.memories.now A.buffer.now own A.status.now)
    A.engaged.now)
    other 0 (c.in_ok-check_areas.ensures.0 own other
    (reading.part_carries A.progress c.requires.words_len.0 few)
    (reading.part_carries A.theirs c.requires.words_len.1 few2)) refl in
    let lengths = plain.lengths_are p A.source.now (tenant_areas (state_of A.memories.now A.buffer.now own A.status.now) A.engaged.now)
    other none.0 in
    record { progress_len = (lengths.own.progress, lengths.engaged); b_bound = (now.low, leb-true _ _ none.1.tenant) }

pub returns-then-held_by_other : goal.returns-then-held_by_other
returns-then-held_by_other c =
    let A = c.args in
    let p = plan_of A.table.now.layout.sizes.route A.table.now.layout.nest in
    let long = c.if-hours-n.false ∙ ap (λ (n : ℕ). 28 * n) c.args.table.now.layout.sized.processors in
    let counts = c.in_ok-check_areas.ensures.1 in
    let few = reading.few_words _ _ c.args.table.now.layout.sized A.progress.count counts.0 in
    let hours = c.in_ok-check_minute.ensures ∙ ap (λ (n : ℕ). first_of (hour_lines n (moment_of A.hours.now A.minute) A.b)) c.args.table.now.layout.sized.processors in
    let own = take (A.progress.count - 0) (drop 0 A.progress.words) in (
      λ l q h k. lines.away_held p A.source.now A.tenant (moment_of A.hours.now A.minute)
          (tenant_areas (state_of A.memories.now A.buffer.now l A.status.now) A.engaged.now) q A.b long
          0 (c.in_ok-check_areas.ensures.0 l q h k) refl
          0 hours refl
          (plain.held_as p A.tenant A.memories.now A.buffer.now own l A.status.now A.engaged.now A.b
          (reading.part_is A.progress l few h)
          ∙ sym c.held_by_other.ensures ∙ c.if-held_by_other.true),
      tt,
    )

pub returns : goal.returns
returns c =
    let A = c.args in
    let p = plan_of A.table.now.layout.sizes.route A.table.now.layout.nest in
    let long = c.if-hours-n.false ∙ ap (λ (n : ℕ). 28 * n) c.args.table.now.layout.sized.processors in
    let counts = c.in_ok-check_areas.ensures.1 in
    let few = reading.few_words _ _ c.args.table.now.layout.sized A.progress.count counts.0 in
    let hours = c.in_ok-check_minute.ensures ∙ ap (λ (n : ℕ). first_of (hour_lines n (moment_of A.hours.now A.minute) A.b)) c.args.table.now.layout.sized.processors in
    let own = take (A.progress.count - 0) (drop 0 A.progress.words) in (
      λ l q h k. lines.away_0 p A.source.now A.tenant (moment_of A.hours.now A.minute)
          (tenant_areas (state_of A.memories.now A.buffer.now l A.status.now) A.engaged.now) q A.b long
          0 (c.in_ok-check_areas.ensures.0 l q h k) refl
          0 hours refl
          (plain.held_as p A.tenant A.memories.now A.buffer.now own l A.status.now A.engaged.now A.b
          (reading.part_is A.progress l few h)
          ∙ sym c.held_by_other.ensures ∙ c.if-held_by_other.false),
      counts,
    )
