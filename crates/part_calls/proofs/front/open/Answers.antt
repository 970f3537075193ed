-- `part_calls::front::open` meets its contract: the first true line, or the layout.
use Rattle.std.proofs.lemmas.Result.{err_from_is_err_and}
use Rattle.part_calls.proofs.front.Front as front
use Rattle.part_calls.proofs.front.open.Goals as goal

pub returns-in_err-layout : goal.returns-in_err-layout
returns-in_err-layout c =
    let A = c.args in
    let p = err_from_is_err_and c.from_residual.result c.from_residual.ensures.1 in
    rw (p.1, p.2) (front.closed_read A.encoded.now A.route A.processor _ c.in_err-layout.ensures)

pub returns-then-processor-layout : goal.returns-then-processor-layout
returns-then-processor-layout c =
    let A = c.args in
    front.closed_beyond A.encoded.now A.route A.processor _ c.in_ok-layout.ensures c.if-processor-layout.true

pub returns : goal.returns
returns c =
    let A = c.args in
    front.opens A.encoded.now A.route A.processor _ c.in_ok-layout.ensures c.if-processor-layout.false
