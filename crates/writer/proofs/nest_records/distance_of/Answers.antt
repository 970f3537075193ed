-- `writer::distance_of` meets its contract: its record over the nest's numbers.
use mathlib.Core.Path.{refl}
use Rattle.writer.proofs.Records as L
use Rattle.writer.proofs.nest_records.distance_of.Goals as goal

pub returns-then-narrow : goal.returns-then-narrow
returns-then-narrow c =
    let A = c.args in
    L.narrow_is A.nest A.e _ _ _ _ refl refl refl refl _ _
    c.narrow.ensures c.if-narrow.true c.narrow_record.ensures

pub returns : goal.returns
returns c =
    let A = c.args in
    L.wide_is A.nest A.e _ _ _ _ refl refl refl refl _ _
    c.narrow.ensures c.if-narrow.false c.wide_record.ensures
