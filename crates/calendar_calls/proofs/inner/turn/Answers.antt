-- Each return is the call by the line that counts.
use Rattle.std.specs.Prelude.{◌≡◌, ℕ, ◌-◌, List, take, drop}
use mathlib.Core.Path.{refl, subst, ◌∙◌}
use native.Mathlib.Omega.{arith}
use Rattle.std.proofs.lemmas.Result.{err_from_is_err_and}
use Rattle.base.specs.Refusals.{number_of}
use Rattle.base.proofs.Codes.{code_some}
use Rattle.machine.specs.Machine.{state_of}
use Rattle.plan.specs.Shaped.{plan_of}
use Rattle.calendar.specs.Windows.{moment_of}
use Rattle.engine.specs.Calls.{answer}
use Rattle.engine.specs.Given.{records_after}
use Rattle.engine.proofs.Lines as plain
use Rattle.engine.proofs.Reading as reading
use Rattle.calendar_calls.specs.Calls.{turn_call_at}
use Rattle.calendar_calls.proofs.Lines as lines
use Rattle.calendar_calls.proofs.inner.turn.Goals as goal

pub returns-in_err-table : goal.returns-in_err-table
returns-in_err-table c =
    let A = c.args in
    let e = err_from_is_err_and c.from_residual.result c.from_residual.ensures.1 in
    λ l k. rw (e.1, e.2)
    (lines.turn_read A.encoded.now A.route A.source.now (moment_of A.hours.now A.minute)
    (state_of A.memories.now A.buffer.now l A.status.now) A.processor _ c.in_err-table.ensures.number (code_some _))

pub returns-in_err-check_turn : goal.returns-in_err-check_turn
returns-in_err-check_turn c =
    let A = c.args in
    let table = c.in_ok-table.table in
    let p = plan_of table.layout.sizes.route table.layout.nest in
    let e = err_from_is_err_and c.from_residual-in_err-check_turn.result c.from_residual-in_err-check_turn.ensures.1 in
    λ l k. rw (e.1, e.2)
    (lines.turn_away A.encoded.now A.route A.source.now (moment_of A.hours.now A.minute)
    (state_of A.memories.now A.buffer.now l A.status.now) A.processor p c.in_ok-table.ensures.layout.opened _
    (c.in_err-check_turn.ensures.0 l k) (code_some _))

pub slice_bounds-step-end : goal.slice_bounds-step-end
slice_bounds-step-end c =
    let A = c.args in
    let table = c.in_ok-table.table in
    let few = reading.few_words _ _ table.layout.sized A.progress.count c.in_ok-check_turn.ensures.1 in
    omega (arith, c.requires, few)

pub step-requires : goal.step-requires
step-requires c =
    let A = c.args in
    let table = c.in_ok-table.table in
    let few = reading.few_words _ _ table.layout.sized A.progress.count c.in_ok-check_turn.ensures.1 in
    let p = plan_of table.layout.sizes.route table.layout.nest in
    let own = take (A.progress.count - 0) (drop 0 A.progress.words) in
    let opened = lines.away_none p A.source.now (moment_of A.hours.now A.minute) (state_of A.memories.now A.buffer.now own A.status.now)
    A.processor
    0 (c.in_ok-check_turn.ensures.0 own (reading.part_carries A.progress c.requires few)) refl in record {
      may_turn = plain.passed p A.source.now (state_of A.memories.now A.buffer.now own A.status.now) A.processor 0 opened.unfit refl
          opened.hours.low;
    }

pub returns : goal.returns
returns c =
    let step = c.step in
    let A = c.args in
    let table = c.in_ok-table.table in
    let few = reading.few_words _ _ table.layout.sized A.progress.count c.in_ok-check_turn.ensures.1 in
    let p = plan_of table.layout.sizes.route table.layout.nest in
    let own = take (A.progress.count - 0) (drop 0 A.progress.words) in
    let opened = lines.away_none p A.source.now (moment_of A.hours.now A.minute) (state_of A.memories.now A.buffer.now own A.status.now)
    A.processor
    0 (c.in_ok-check_turn.ensures.0 own (reading.part_carries A.progress c.requires few)) refl in
    λ l k. subst (λ (x : List ℕ). answer (number_of step.result) (state_of step.new.memories step.new.buffer
    (records_after x A.processor step.result) step.new.status)
    ≡ turn_call_at A.encoded.now A.route A.source.now (moment_of A.hours.now A.minute) (state_of A.memories.now A.buffer.now x
    A.status.now) A.processor) (reading.part_is A.progress l few k) (plain.turn_steps A.encoded.now A.route A.source.now
    (state_of A.memories.now A.buffer.now own A.status.now) A.processor p c.in_ok-table.ensures.layout.opened
    0 opened.unfit refl _ step.ensures ∙ lines.plainly A.encoded.now A.route A.source.now (moment_of A.hours.now A.minute)
    (state_of A.memories.now A.buffer.now own A.status.now) A.processor p c.in_ok-table.ensures.layout.opened opened.long
    (opened.hours.fair, opened.hours.open_then))
