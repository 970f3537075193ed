-- Each return is the first line that holds, up to the machine's.
use Rattle.std.specs.Prelude.{ℕ, ◌*◌}
use mathlib.Core.Path.{refl, sym, ap, ◌∙◌}
use native.Mathlib.Omega.{arith}
use Rattle.std.proofs.lemmas.Result.{err_from_is_err_and}
use Rattle.base.specs.Numbers.{first_of}
use Rattle.base.proofs.Codes.{code_some}
use Rattle.machine.specs.Machine.{state_of}
use Rattle.plan.specs.Shaped.{plan_of}
use Rattle.calendar.specs.Windows.{moment_of}
use Rattle.calendar_calls.specs.Given.{hour_lines}
use Rattle.calendar_calls.proofs.Lines as lines
use Rattle.calendar_calls.proofs.inner.check_turn.Goals as goal

pub overflow_mul-n : goal.overflow_mul-n
overflow_mul-n c = omega (arith, c.args.table.now.layout.sized.processors, c.args.table.now.layout.sized.accepted.processors_most)

pub returns-then-hours-n : goal.returns-then-hours-n
returns-then-hours-n c =
    let A = c.args in
    let p = plan_of A.table.now.layout.sizes.route A.table.now.layout.nest in (
      λ l k. lines.away_nine p A.source.now (moment_of A.hours.now A.minute) (state_of A.memories.now A.buffer.now l A.status.now) A.b
          (λ q. c.if-hours-n.true (q ∙ ap (λ (n : ℕ). 28 * n) (sym c.args.table.now.layout.sized.processors))),
      tt,
    )

pub returns-in_err-check_areas : goal.returns-in_err-check_areas
returns-in_err-check_areas c =
    let A = c.args in
    let p = plan_of A.table.now.layout.sizes.route A.table.now.layout.nest in
    let long = c.if-hours-n.false ∙ ap (λ (n : ℕ). 28 * n) c.args.table.now.layout.sized.processors in
    let e = err_from_is_err_and c.from_residual.result c.from_residual.ensures.1 in
    rw (e.1, e.2) (
      λ l k. lines.away_unfit p A.source.now (moment_of A.hours.now A.minute) (state_of A.memories.now A.buffer.now l A.status.now) A.b
          long _ (c.in_err-check_areas.ensures.0 l k) (code_some _),
      tt,
    )

pub check_minute-requires : goal.check_minute-requires
check_minute-requires c = (omega (arith, c.args.table.now.layout.sized.processors, c.args.table.now.layout.sized.accepted.processors_most), c.if-hours-n.false)

pub returns : goal.returns
returns c =
    let A = c.args in
    let p = plan_of A.table.now.layout.sizes.route A.table.now.layout.nest in
    let long = c.if-hours-n.false ∙ ap (λ (n : ℕ). 28 * n) c.args.table.now.layout.sized.processors in
    let hours = c.check_minute.ensures ∙ ap (λ (n : ℕ). first_of (hour_lines n (moment_of A.hours.now A.minute) A.b)) c.args.table.now.layout.sized.processors
    in (
      λ l k. lines.away_shut p A.source.now (moment_of A.hours.now A.minute) (state_of A.memories.now A.buffer.now l A.status.now) A.b
          long 0 (c.in_ok-check_areas.ensures.0 l k) refl _ hours,
      lines.if_ok c.check_minute.result c.in_ok-check_areas.ensures.1,
    )
