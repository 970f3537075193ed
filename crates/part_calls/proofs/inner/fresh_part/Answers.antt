-- `inner::fresh_part` meets its contract: each return by the line that counts.
use mathlib.Core.Path.{refl, sym}
use Rattle.tables.specs.Given.{plan_of_table}
use Rattle.part_calls.proofs.Answers as answers
use Rattle.part_calls.proofs.inner.fresh_part.Goals as goal

pub prepare-messages-requires : goal.prepare-messages-requires
prepare-messages-requires c = record { routed = c.requires.routed; low = c.requires.low; lengths = (refl, (refl, refl)) }

pub part_fits-requires : goal.part_fits-requires
part_fits-requires c =
    let found = c.prepare-messages in
    let kept-count = c.kept_count-many in
    (found.ensures.known.0, record { messages = found.ensures.known.1; kept = kept-count.ensures.0 })

pub returns-then-not-part_fits : goal.returns-then-not-part_fits
returns-then-not-part_fits c =
    let A = c.args in
    let found = c.prepare-messages in
    let part_fits_lem = c.part_fits in
    let if1 = c.if-not-part_fits in
    let p = plan_of_table found.result.table in
    λ l h. rw (sym found.ensures.table)
    (answers.fresh_nine p A.b found.ensures.known.0.low A.memory.now A.mail.now l A.marks.now part_fits_lem.result (part_fits_lem.ensures l h)
    if1.true)

pub returns : goal.returns
returns c =
    let A = c.args in
    let found = c.prepare-messages in
    let part_fits_lem = c.part_fits in
    let if1 = c.if-not-part_fits in
    let p = plan_of_table found.result.table in
    λ l h. rw (sym found.ensures.table)
    (answers.fresh_done p A.b found.ensures.known.0.low A.memory.now A.mail.now l A.marks.now part_fits_lem.result (part_fits_lem.ensures l h)
    if1.false _ _ _ (c.fill.ensures.after (λ y h. h)) (c.fill-2.ensures.after (λ y h. h)) (c.fill-3.ensures.after (λ y h. h)))
