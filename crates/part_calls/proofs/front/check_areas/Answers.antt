-- `part_calls::front::check_areas` meets its contract: each return by the line that counts.
use Rattle.std.specs.Prelude.{ℕ, replicate}
use mathlib.Core.Path.{sym}
use native.Mathlib.Omega.{arith}
use lib.ListN.{length-replicate}
use Rattle.plan.specs.Shaped.{plan_of}
use Rattle.part_calls.proofs.front.Front as front
use Rattle.part_calls.proofs.front.check_areas.Goals as goal

pub part_fits-requires : goal.part_fits-requires
part_fits-requires c = (c.requires.0, c.requires.1.0)

pub returns-then-not-part_fits-clause-lines : goal.returns-then-not-part_fits-clause-lines
returns-then-not-part_fits-clause-lines c =
    let A = c.args in
    let p = plan_of A.table.now.layout.sizes.route A.table.now.layout.nest in
    λ l h. front.nine p A.b c.requires.0.low A.memory.now A.mail.now l A.marks.now _ (c.part_fits.ensures l h.counted)
    c.if-not-part_fits.true

pub bounds-words-0 : goal.bounds-words-0
bounds-words-0 c = omega (arith, c.requires.1.1)

pub bounds-words-1 : goal.bounds-words-1
bounds-words-1 c = omega (arith, c.requires.1.1)

pub bounds-words-2 : goal.bounds-words-2
bounds-words-2 c = omega (arith, c.requires.1.1)

pub returns-then-not-fit_own-clause-lines : goal.returns-then-not-fit_own-clause-lines
returns-then-not-fit_own-clause-lines c =
    let A = c.args in
    let p = plan_of A.table.now.layout.sizes.route A.table.now.layout.nest in
    λ l h. front.ten_record p A.b c.requires.0.low A.memory.now A.mail.now l A.marks.now _ (c.part_fits.ensures l h.counted)
    c.if-not-part_fits.false A.progress h _ c.fit_own.ensures c.if-not-fit_own.true

pub returns-then-not-fit_status-clause-lines : goal.returns-then-not-fit_status-clause-lines
returns-then-not-fit_status-clause-lines c =
    let A = c.args in
    let p = plan_of A.table.now.layout.sizes.route A.table.now.layout.nest in
    λ l h. front.ten_marks p A.b c.requires.0.low A.memory.now A.mail.now l A.marks.now _ (c.part_fits.ensures l h.counted)
    c.if-not-part_fits.false A.progress h _ c.fit_own.ensures _ c.fit_status.ensures c.if-not-fit_status.true

pub returns-clause-lines : goal.returns-clause-lines
returns-clause-lines c =
    let A = c.args in
    let p = plan_of A.table.now.layout.sizes.route A.table.now.layout.nest in
    λ l h. front.zero_both p A.b c.requires.0.low A.memory.now A.mail.now l A.marks.now _ (c.part_fits.ensures l h.counted)
    c.if-not-part_fits.false A.progress h _ c.fit_own.ensures _ c.fit_status.ensures c.if-not-fit_own.false
    c.if-not-fit_status.false

pub returns-clause-three : goal.returns-clause-three
returns-clause-three c =
    let A = c.args in
    let p = plan_of A.table.now.layout.sizes.route A.table.now.layout.nest in
    let n = A.progress.count in
    let zeros = replicate {A = ℕ} n 0 in
    let long = sym (length-replicate {A = ℕ} n 0) in
    front.three_words p A.b c.requires.0.low A.memory.now A.mail.now zeros A.marks.now _ (c.part_fits.ensures zeros long)
    c.if-not-part_fits.false n long
