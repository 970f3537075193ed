-- `inner::post_part` meets its contract: each return by the line that counts.
use mathlib.Core.Path.{refl, sym}
use Rattle.std.proofs.lemmas.Result.{err_from_is_err_and}
use Rattle.base.proofs.Codes.{code_some}
use Rattle.machine.specs.Machine.{state_of}
use Rattle.tables.specs.Given.{plan_of_table}
use Rattle.part_calls.proofs.Answers as answers
use Rattle.part_calls.proofs.inner.post_part.Goals as goal

pub prepare-messages-requires : goal.prepare-messages-requires
prepare-messages-requires c = record { routed = c.requires.routed; low = c.requires.low.0; lengths = (refl, (refl, refl)) }

pub check_areas-requires : goal.check_areas-requires
check_areas-requires c =
    let found = c.prepare-messages in
    let kept-count = c.kept_count-many in
    (found.ensures.known.0, (record { messages = found.ensures.known.1; kept = kept-count.ensures.0 }, c.requires.low.1))

pub returns-in_err-check_areas : goal.returns-in_err-check_areas
returns-in_err-check_areas c =
    let A = c.args in
    let found = c.prepare-messages in
    let p = plan_of_table found.result.table in
    let e = err_from_is_err_and c.from_residual.result c.from_residual.ensures.1 in
    λ l h. rw (e.1, e.2)
    (rw (sym found.ensures.table)
    (answers.post_unfit p A.b found.ensures.known.0.low (state_of A.memory.now A.mail.now l A.marks.now) _
    (c.in_err-check_areas.ensures.lines l h) A.m (code_some _)))

pub hand_over-requires : goal.hand_over-requires
hand_over-requires c =
    let A = c.args in
    let found = c.prepare-messages in
    let areas = c.in_ok-check_areas in
    let p = plan_of_table found.result.table in (
      found.ensures.known.0,
      (
        found.ensures.known.1,
        answers.marks_lent p A.b A.memory.now A.mail.now A.marks.now A.progress c.requires.low.1 areas.ensures.three areas.ensures.lines,
      ),
    )

pub returns : goal.returns
returns c =
    let A = c.args in
    let found = c.prepare-messages in
    let p = plan_of_table found.result.table in
    λ l h. rw (sym found.ensures.table)
    (answers.post_over p A.b found.ensures.known.0.low (state_of A.memory.now A.mail.now l A.marks.now) 0
    (c.in_ok-check_areas.ensures.lines l h) A.m refl _ (c.hand_over.ensures A.memory.now A.mail.now l))
