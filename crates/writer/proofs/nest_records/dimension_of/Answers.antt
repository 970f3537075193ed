-- `writer::dimension_of` meets its contract: its record over the nest's numbers.
use mathlib.Core.Path.{refl}
use Rattle.writer.proofs.Records as L
use Rattle.writer.proofs.nest_records.dimension_of.Goals as goal

pub returns : goal.returns
returns c =
    L.dimension_is c.args.nest c.args.j _ _ _ _ refl refl refl
    c.dimension_record.ensures
