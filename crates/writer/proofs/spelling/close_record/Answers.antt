-- `writer::spelling::close_record` meets its contract: one law over plain variables.
use Rattle.writer.proofs.spelling.Records as L
use Rattle.writer.proofs.spelling.close_record.Goals as goal

pub returns : goal.returns
returns c =
    let A = c.args in
    L.close_made A.shift A.boundary _ _ _ _ _ c.low.ensures c.low-2.ensures c.high.ensures c.low-3.ensures c.high-2.ensures
