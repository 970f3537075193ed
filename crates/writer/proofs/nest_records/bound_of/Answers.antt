-- `writer::bound_of` meets its contract: its record over the nest's numbers.
use Rattle.writer.proofs.Records as L
use Rattle.writer.proofs.nest_records.bound_of.Goals as goal

pub returns : goal.returns
returns c =
    L.bound_is _ _ _ _ _ _ _ _ c.from.ensures c.from-2.ensures c.from-3.ensures c.from-4.ensures c.from-5.ensures
    c.bound_record.ensures
