-- `writer::spelling::narrow_record` meets its contract: one law over plain variables.
use Rattle.writer.proofs.spelling.Records as L
use Rattle.writer.proofs.spelling.narrow_record.Goals as goal

pub returns : goal.returns
returns c =
    let A = c.args in
    L.narrow_made A.d1 A.d2 A.d3 A.d4 A.weight _ _ _ _ _ _ c.low.ensures c.low-2.ensures c.low-3.ensures
    c.low-4.ensures c.low-small.ensures c.high-large.ensures
