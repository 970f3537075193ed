-- `inner::take_in` meets its contract: each return by the line that counts.
use Rattle.std.specs.Prelude.{◌-◌, take, drop}
use mathlib.Core.Path.{refl, sym, ◌∙◌}
use Rattle.std.proofs.lemmas.Result.{err_from_is_err_and}
use Rattle.base.proofs.Codes.{code_some}
use Rattle.machine.specs.Machine.{state_of}
use Rattle.tables.specs.Given.{plan_of_table}
use Rattle.engine.proofs.Reading as reading
use Rattle.transport.proofs.Answers as answers
use Rattle.transport.proofs.arrivals.Taking as taking
use Rattle.transport.proofs.inner.take_in.Goals as goal

pub returns-in_err-table : goal.returns-in_err-table
returns-in_err-table c =
    let A = c.args in
    let e = err_from_is_err_and c.from_residual.result c.from_residual.ensures.1 in
    λ l h. rw (e.1, e.2)
    (answers.take_in_read A.encoded.now A.route A.source.now (state_of A.memories.now A.buffer.now l A.status.now) A.processor A.message A.words.now _
    c.in_err-table.ensures.number (code_some _))

pub returns-then-not-as_long : goal.returns-then-not-as_long
returns-then-not-as_long c =
    let A = c.args in
    λ l h. answers.take_in_length A.encoded.now A.route A.source.now (state_of A.memories.now A.buffer.now l A.status.now) A.processor A.message A.words.now
    (plan_of_table c.in_ok-table.table) c.in_ok-table.ensures.layout.opened (sym (c.as_long.ensures A.words.now refl) ∙ c.if-not-as_long.true)

pub returns-in_err-check_areas : goal.returns-in_err-check_areas
returns-in_err-check_areas c =
    let A = c.args in
    let e = err_from_is_err_and c.from_residual-in_err-check_areas.result c.from_residual-in_err-check_areas.ensures.1 in
    λ l h. rw (e.1, e.2)
    (answers.take_in_unfit A.encoded.now A.route A.source.now (state_of A.memories.now A.buffer.now l A.status.now) A.processor A.message A.words.now
    (plan_of_table c.in_ok-table.table) c.in_ok-table.ensures.layout.opened (sym (c.as_long.ensures A.words.now refl) ∙ c.if-not-as_long.false) _
    (c.in_err-check_areas.ensures.0 l h) (code_some _))

pub receive-requires : goal.receive-requires
receive-requires c =
    let A = c.args in
    let table = c.in_ok-table.table in
    let lent = take (A.progress.count - 0) (drop 0 A.progress.words) in
    let few = reading.few_words _ _ table.layout.sized A.progress.count c.in_ok-check_areas.ensures.1 in
    taking.may_take (plan_of_table table) A.source.now (state_of A.memories.now A.buffer.now lent A.status.now) 0
    (c.in_ok-check_areas.ensures.0 lent (reading.part_carries A.progress c.requires few)) refl A.message A.words.now
    (sym (c.as_long.ensures A.words.now refl) ∙ c.if-not-as_long.false)

pub returns : goal.returns
returns c =
    let A = c.args in
    λ l h. answers.take_in_received A.encoded.now A.route A.source.now (state_of A.memories.now A.buffer.now l A.status.now) A.processor A.message A.words.now
    (plan_of_table c.in_ok-table.table) c.in_ok-table.ensures.layout.opened (sym (c.as_long.ensures A.words.now refl) ∙ c.if-not-as_long.false) 0
    (c.in_ok-check_areas.ensures.0 l h) refl _ (c.receive.ensures A.memories.now l)
