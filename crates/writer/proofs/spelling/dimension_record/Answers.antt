-- `writer::spelling::dimension_record` meets its contract: one law over plain variables.
use Rattle.writer.proofs.spelling.Records as L
use Rattle.writer.proofs.spelling.dimension_record.Goals as goal

pub returns : goal.returns
returns c =
    let A = c.args in
    L.dimension_made A.length A.tile A.count _ _ _ _ _ _ c.low.ensures c.high.ensures c.low-2.ensures c.high-2.ensures c.low-3.ensures c.high-3.ensures
