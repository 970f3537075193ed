-- Each return is the call by the line that counts.
use Rattle.std.specs.Prelude.{ℕ, ◌*◌}
use mathlib.Core.Path.{sym, ap, ◌∙◌}
use native.Mathlib.Omega.{arith}
use Rattle.std.proofs.lemmas.Result.{err_from_is_err_and}
use Rattle.base.proofs.Codes.{code_some}
use Rattle.plan.specs.Shaped.{plan_of}
use Rattle.recipe.proofs.Laws.{direct_lines}
use Rattle.calendar.specs.Windows.{moment_of, faulty_for}
use Rattle.calendar_calls.proofs.Lines as lines
use Rattle.calendar_calls.proofs.opens.Goals as goal

pub returns-in_err-layout : goal.returns-in_err-layout
returns-in_err-layout c =
    let A = c.args in
    let e = err_from_is_err_and c.from_residual.result c.from_residual.ensures.1 in
    rw (e.1, e.2)
    (lines.ask_read A.encoded.now (moment_of A.hours.now A.minute) A.processor _ (c.in_err-layout.ensures.number ∙ direct_lines A.encoded.now)
    (code_some _))

pub overflow_mul-n : goal.overflow_mul-n
overflow_mul-n c =
    let sized = c.in_ok-layout.layout.sized in
    omega (arith, sized.processors, sized.accepted.processors_most)

pub returns-then-hours-n : goal.returns-then-hours-n
returns-then-hours-n c =
    let A = c.args in
    let layout = c.in_ok-layout.layout in
    let p = plan_of layout.sizes.route layout.nest in
    lines.ask_nine A.encoded.now (moment_of A.hours.now A.minute) A.processor p c.in_ok-layout.ensures.layout.opened
    (λ q. c.if-hours-n.true (q ∙ ap (λ (n : ℕ). 28 * n) (sym layout.sized.processors)))

pub faulty-requires : goal.faulty-requires
faulty-requires c =
    let sized = c.in_ok-layout.layout.sized in
    (omega (arith, sized.processors, sized.accepted.processors_most), c.if-hours-n.false)

pub returns-then-faulty : goal.returns-then-faulty
returns-then-faulty c =
    let A = c.args in
    let layout = c.in_ok-layout.layout in
    let p = plan_of layout.sizes.route layout.nest in
    let long = c.if-hours-n.false ∙ ap (λ (n : ℕ). 28 * n) layout.sized.processors in
    let calendar = ap (λ (n : ℕ). faulty_for n (moment_of A.hours.now A.minute)) (sym layout.sized.processors) ∙ sym c.faulty.ensures in
    lines.ask_faulty A.encoded.now (moment_of A.hours.now A.minute) A.processor p c.in_ok-layout.ensures.layout.opened long
    (calendar ∙ c.if-faulty.true)

pub returns-then-b-n : goal.returns-then-b-n
returns-then-b-n c =
    let A = c.args in
    let layout = c.in_ok-layout.layout in
    let p = plan_of layout.sizes.route layout.nest in
    let long = c.if-hours-n.false ∙ ap (λ (n : ℕ). 28 * n) layout.sized.processors in
    let calendar = ap (λ (n : ℕ). faulty_for n (moment_of A.hours.now A.minute)) (sym layout.sized.processors) ∙ sym c.faulty.ensures in
    lines.ask_beyond A.encoded.now (moment_of A.hours.now A.minute) A.processor p c.in_ok-layout.ensures.layout.opened long
    (calendar ∙ c.if-faulty.false) (omega (arith, layout.sized.processors, c.if-b-n.true))

pub minutes-requires : goal.minutes-requires
minutes-requires c =
    let A = c.args in
    let layout = c.in_ok-layout.layout in
    lines.may_ask layout.sizes.processors A.hours.now A.minute A.processor (omega (
      arith,
      layout.sized.processors,
      layout.sized.accepted.processors_most,
    )) c.if-hours-n.false (sym c.faulty.ensures ∙ c.if-faulty.false) c.if-b-n.false

pub returns : goal.returns
returns c =
    let A = c.args in
    let layout = c.in_ok-layout.layout in
    let p = plan_of layout.sizes.route layout.nest in
    let long = c.if-hours-n.false ∙ ap (λ (n : ℕ). 28 * n) layout.sized.processors in
    let calendar = ap (λ (n : ℕ). faulty_for n (moment_of A.hours.now A.minute)) (sym layout.sized.processors) ∙ sym c.faulty.ensures in
    lines.ask_told A.encoded.now (moment_of A.hours.now A.minute) A.processor p c.in_ok-layout.ensures.layout.opened long (calendar ∙ c.if-faulty.false)
    (omega (arith, layout.sized.processors, c.if-b-n.false)) _ c.minutes.ensures
