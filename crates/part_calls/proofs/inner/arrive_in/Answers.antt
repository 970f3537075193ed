-- `inner::arrive_in` meets its contract: each return by the line that counts.
use mathlib.Core.Path.{refl, sym, ◌∙◌}
use Rattle.std.proofs.lemmas.Result.{err_from_is_err_and}
use Rattle.base.proofs.Codes.{code_some}
use Rattle.machine.specs.Machine.{state_of}
use Rattle.plan.specs.Shaped.{plan_of}
use Rattle.part_calls.proofs.Answers as answers
use Rattle.part_calls.proofs.inner.arrive_in.Goals as goal

pub returns-then-not-as_long : goal.returns-then-not-as_long
returns-then-not-as_long c =
    let A = c.args in
    let as_long_lem = c.as_long in
    let if1 = c.if-not-as_long in
    let p = plan_of A.table.now.layout.sizes.route A.table.now.layout.nest in
    λ l h. answers.arrive_length p A.b c.requires.0.low (state_of A.memory.now A.mail.now l A.marks.now) _ refl A.m A.words.now
    (sym (as_long_lem.ensures A.words.now refl) ∙ if1.true)

pub check_areas-requires : goal.check_areas-requires
check_areas-requires c = c.requires

pub returns-in_err-check_areas : goal.returns-in_err-check_areas
returns-in_err-check_areas c =
    let A = c.args in
    let p = plan_of A.table.now.layout.sizes.route A.table.now.layout.nest in
    let e = err_from_is_err_and c.from_residual.result c.from_residual.ensures.1 in
    λ l h. rw (e.1, e.2)
    (answers.arrive_unfit p A.b c.requires.0.low (state_of A.memory.now A.mail.now l A.marks.now) _
    (c.in_err-check_areas.ensures.lines l h) A.m A.words.now (sym (c.as_long.ensures A.words.now refl) ∙ c.if-not-as_long.false) (code_some _))

pub receive-requires : goal.receive-requires
receive-requires c =
    let A = c.args in
    let areas = c.in_ok-check_areas in
    let p = plan_of A.table.now.layout.sizes.route A.table.now.layout.nest in record {
      known = c.requires.0;
      messages_value = (
        c.requires.1.0.messages,
        answers.may_arrive p A.b A.memory.now A.mail.now A.marks.now A.progress c.requires.1.1 areas.ensures.three areas.ensures.lines
            A.m A.words.now (sym (c.as_long.ensures A.words.now refl) ∙ c.if-not-as_long.false),
      );
    }

pub returns : goal.returns
returns c =
    let A = c.args in
    let p = plan_of A.table.now.layout.sizes.route A.table.now.layout.nest in
    λ l h. answers.arrive_come p A.b c.requires.0.low (state_of A.memory.now A.mail.now l A.marks.now) 0
    (c.in_ok-check_areas.ensures.lines l h) A.m A.words.now (sym (c.as_long.ensures A.words.now refl) ∙ c.if-not-as_long.false) refl _
    (c.receive.ensures A.memory.now l)
