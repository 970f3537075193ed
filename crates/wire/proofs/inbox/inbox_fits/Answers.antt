-- Both lengths, one after the other.
use Rattle.plan.specs.Shaped.{plan_of}
use Rattle.wire.proofs.Receiving.{fits_no, fits_by}
use Rattle.wire.proofs.inbox.inbox_fits.Goals as goal

pub returns-then-parts-t : goal.returns-then-parts-t
returns-then-parts-t c =
    let A = c.args in
    fits_by (plan_of A.table.now.layout.sizes.route A.table.now.layout.nest) A.parts A.masks c.totals-t.result.words c.totals-t.result.messages c.totals-t.ensures.1.0
    c.totals-t.ensures.0 c.if-parts-t.true

pub returns-else-parts-t : goal.returns-else-parts-t
returns-else-parts-t c =
    let A = c.args in
    fits_no (plan_of A.table.now.layout.sizes.route A.table.now.layout.nest) A.parts A.masks c.totals-t.result.words c.totals-t.result.messages c.totals-t.ensures.1.0
    c.totals-t.ensures.0 c.if-parts-t.false
