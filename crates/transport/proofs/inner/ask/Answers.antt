-- `inner::ask` meets its contract: each return by the line that counts.
use native.Mathlib.Omega.{arith}
use Rattle.std.specs.Prelude.{ℕ, ◌-◌, List, [], take, drop}
use mathlib.Core.Path.{refl, ap, ◌∙◌}
use Rattle.std.proofs.lemmas.Result.{err_from_is_err_and}
use Rattle.base.proofs.Codes.{code_some}
use Rattle.machine.specs.Machine.{state_of}
use Rattle.tables.specs.Given.{plan_of_table}
use Rattle.engine.proofs.Reading as reading
use Rattle.transport.specs.Given.{waited_or13}
use Rattle.transport.proofs.Awaiting as waiting
use Rattle.transport.proofs.Answers as answers
use Rattle.transport.proofs.inner.ask.Goals as goal

pub returns-in_err-table : goal.returns-in_err-table
returns-in_err-table c =
    let A = c.args in
    let e = err_from_is_err_and c.from_residual.result c.from_residual.ensures.1 in
    λ l h. rw (e.1, e.2)
    (answers.awaited_read A.encoded.now A.route (state_of [] [] l A.status.now) A.processor A.marks.now _ c.in_err-table.ensures.number (code_some _))

pub returns-in_err-check_asking : goal.returns-in_err-check_asking
returns-in_err-check_asking c =
    let A = c.args in
    let e = err_from_is_err_and c.from_residual-in_err-check_asking.result c.from_residual-in_err-check_asking.ensures.1 in
    λ l h. rw (e.1, e.2)
    (answers.awaited_unasked A.encoded.now A.route (state_of [] [] l A.status.now) A.processor A.marks.now (plan_of_table c.in_ok-table.table)
    c.in_ok-table.ensures.layout.opened _ (c.in_err-check_asking.ensures.lines l A.marks.now h refl) (code_some _))

pub returns-then-b-table : goal.returns-then-b-table
returns-then-b-table c =
    let A = c.args in
    let table = c.in_ok-table.table in
    λ l h. answers.awaited_beyond A.encoded.now A.route (state_of [] [] l A.status.now) A.processor A.marks.now (plan_of_table table)
    c.in_ok-table.ensures.layout.opened 0 (c.in_ok-check_asking.ensures.lines l A.marks.now h refl) refl
    (omega (arith, table.layout.sized.processors, c.if-b-table.true))

pub slice_bounds-tell_awaited-end : goal.slice_bounds-tell_awaited-end
slice_bounds-tell_awaited-end c =
    omega (
      arith,
      c.requires,
      reading.few_words _ _ c.in_ok-table.table.layout.sized c.args.progress.count c.in_ok-check_asking.ensures.count,
    )

pub tell_awaited-requires : goal.tell_awaited-requires
tell_awaited-requires c =
    let A = c.args in
    let table = c.in_ok-table.table in
    let lent = take (A.progress.count - 0) (drop 0 A.progress.words) in
    let few = reading.few_words _ _ table.layout.sized A.progress.count c.in_ok-check_asking.ensures.count in
    record {
      may_ask = waiting.may_ask (plan_of_table table) (state_of [] [] lent A.status.now) A.marks.now 0
          (c.in_ok-check_asking.ensures.lines lent A.marks.now (reading.part_carries A.progress c.requires few) refl) refl A.processor
          (omega (arith, table.layout.sized.processors, c.if-b-table.false));
    }

pub returns : goal.returns
returns c =
    let A = c.args in
    let table = c.in_ok-table.table in
    let few = reading.few_words _ _ table.layout.sized A.progress.count c.in_ok-check_asking.ensures.count in
    λ l h. answers.awaited_told A.encoded.now A.route (state_of [] [] l A.status.now) A.processor A.marks.now (plan_of_table table)
    c.in_ok-table.ensures.layout.opened 0 (c.in_ok-check_asking.ensures.lines l A.marks.now h refl) refl
    (omega (arith, table.layout.sized.processors, c.if-b-table.false)) _
    (c.tell_awaited.ensures
    ∙ ap (λ (k : List ℕ). waited_or13 (plan_of_table table) (state_of [] [] k A.status.now) A.processor A.marks.now) (reading.part_is A.progress l few h))
