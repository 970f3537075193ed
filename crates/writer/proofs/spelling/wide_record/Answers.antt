-- `writer::spelling::wide_record` meets its contract: one law over plain variables.
use Rattle.writer.proofs.spelling.Records as L
use Rattle.writer.proofs.spelling.wide_record.Goals as goal

pub returns : goal.returns
returns c =
    let A = c.args in
    L.wide_made A.d1 A.d2 A.d3 A.d4 A.weight _ _ _ _ _ _ _ _ _ _ c.low.ensures c.high.ensures c.low-2.ensures c.high-2.ensures c.low-3.ensures c.high-3.ensures c.low-4.ensures c.high-4.ensures c.low-5.ensures c.high-5.ensures
