-- `transport::list_messages` meets its contract: each return by the line that counts.
use native.Mathlib.Omega.{arith}
use Rattle.std.specs.Prelude.{ℕ, ◌*◌}
use mathlib.Core.Path.{sym, ap, ◌∙◌}
use Rattle.std.proofs.lemmas.Result.{err_from_is_err_and}
use Rattle.base.proofs.Codes.{code_some}
use Rattle.tables.specs.Given.{plan_of_table}
use Rattle.transport.proofs.Answers as answers
use Rattle.transport.proofs.list_messages.Goals as goal

pub returns-in_err-table : goal.returns-in_err-table
returns-in_err-table c =
    let A = c.args in
    let e = err_from_is_err_and c.from_residual.result c.from_residual.ensures.1 in
    rw (e.1, e.2) (answers.messages_read A.encoded.now A.route A.out.now _ c.in_err-table.ensures.number (code_some _))

pub overflow_mul-total : goal.overflow_mul-total
overflow_mul-total c = omega (arith, c.totals-total.ensures.1.1.0)

pub returns-then-out-total : goal.returns-then-out-total
returns-then-out-total c =
    let A = c.args in
    answers.messages_area A.encoded.now A.route A.out.now (plan_of_table c.in_ok-table.table) c.in_ok-table.ensures.layout.opened
    (λ q. c.if-out-total.true (q ∙ ap (λ (n : ℕ). 6 * n) (sym c.totals-total.ensures.0)))

pub put_rows-requires : goal.put_rows-requires
put_rows-requires c = c.if-out-total.false ∙ ap (λ (n : ℕ). 6 * n) c.totals-total.ensures.0

pub returns : goal.returns
returns c =
    let A = c.args in
    answers.messages_done A.encoded.now A.route A.out.now (plan_of_table c.in_ok-table.table) c.in_ok-table.ensures.layout.opened
    (c.if-out-total.false ∙ ap (λ (n : ℕ). 6 * n) c.totals-total.ensures.0) _ c.put_rows.ensures
