-- `writer::spelling::bound_record` meets its contract: one law over plain variables.
use Rattle.writer.proofs.spelling.Records as L
use Rattle.writer.proofs.spelling.bound_record.Goals as goal

pub returns : goal.returns
returns c =
    let A = c.args in
    L.bound_made A.side A.dimension A.earlier A.slope A.offset _ _ _ _ _ _ c.low.ensures c.low-2.ensures c.low-3.ensures c.low-4.ensures c.low-5.ensures c.high.ensures
