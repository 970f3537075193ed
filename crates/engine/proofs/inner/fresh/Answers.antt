-- Each return is the call by the line that counts.
use Rattle.std.specs.Prelude.{ℕ, List}
use mathlib.Core.Path.{sym, ap, ◌∙◌}
use native.Mathlib.Omega.{arith}
use Rattle.std.proofs.Common.{rules}
use Rattle.std.proofs.lemmas.Result.{err_from_is_err_and}
use Rattle.machine.specs.Machine.{state_of}
use Rattle.plan.specs.Shaped.{plan_of}
use Rattle.base.proofs.Codes.{code_some}
use Rattle.engine.specs.Calls.{answer}
use Rattle.engine.proofs.Lines as lines
use Rattle.engine.proofs.Reading as reading
use Rattle.engine.proofs.inner.fresh.Goals as goal

pub returns-in_err-table : goal.returns-in_err-table
returns-in_err-table c =
    let A = c.args in
    let e = err_from_is_err_and c.from_residual.result c.from_residual.ensures.1 in
    λ l h. rw (e.1, e.2, sym (reading.zeros_after_no l _ (code_some c.in_err-table.field-0.0))) (lines.fresh_read A.encoded.now A.route A.source.now (state_of A.memories.now A.buffer.now l A.status.now) _
    c.in_err-table.ensures.number (code_some _))

pub returns-then-not-areas_fit : goal.returns-then-not-areas_fit
returns-then-not-areas_fit c =
    let A = c.args in
    let x = c.in_ok-table.table.layout in
    let p = plan_of x.sizes.route x.nest in
    λ l h. ap (λ (k : List ℕ). answer 9 (state_of A.memories.now A.buffer.now k A.status.now))
    (sym (reading.zeros_after_no l 9 (λ q. omega arith))) ∙ lines.fresh_area A.encoded.now A.route A.source.now (state_of A.memories.now A.buffer.now l A.status.now) p
    c.in_ok-table.ensures.layout.opened (sym (c.areas_fit.ensures.0 l h) ∙ c.if-not-areas_fit.true)

pub returns : goal.returns
returns c =
    let A = c.args in
    let x = c.in_ok-table.table.layout in
    let p = plan_of x.sizes.route x.nest in
    λ l h. lines.fresh_done A.encoded.now A.route A.source.now (state_of A.memories.now A.buffer.now l A.status.now) p
    c.in_ok-table.ensures.layout.opened (sym (c.areas_fit.ensures.0 l h)
    ∙ c.if-not-areas_fit.false) _ _ _ _ (search rules) (search rules) (sym (reading.zeros_after_yes l)) (search rules)
