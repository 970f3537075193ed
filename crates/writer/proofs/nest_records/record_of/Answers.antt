-- `writer::record_of` meets its contract: one law for each kind of record.
use Rattle.writer.proofs.Records as L
use mathlib.Core.Path.{refl}
use native.Mathlib.Omega.{arith}
use Rattle.writer.proofs.nest_records.record_of.Goals as goal

pub dimension_of-requires : goal.dimension_of-requires
dimension_of-requires c = omega (arith, c.if-r-nest.true, c.requires.0.0)

pub returns-then-r-nest : goal.returns-then-r-nest
returns-then-r-nest c = L.dimension_row c.args.nest c.args.r _ c.if-r-nest.true c.dimension_of.ensures

pub bound_of-requires : goal.bound_of-requires
bound_of-requires c = omega (arith, c.if-k-nest.true, c.requires.0.1)

pub returns-then-k-nest : goal.returns-then-k-nest
returns-then-k-nest c =
    let A = c.args in
    L.bound_row A.nest A.r _ _ c.if-r-nest.false refl c.if-k-nest.true c.bound_of.ensures

pub distance_of-requires : goal.distance_of-requires
distance_of-requires c = omega (arith, c.if-e-nest.true, c.requires.1.0)

pub returns-then-e-nest : goal.returns-then-e-nest
returns-then-e-nest c =
    let A = c.args in
    L.distance_row A.nest A.r _ _ c.if-r-nest.false c.if-k-nest.false refl c.if-e-nest.true c.distance_of.ensures

pub returns : goal.returns
returns c =
    let A = c.args in
    L.close_row A.nest A.r _ c.if-r-nest.false c.if-k-nest.false c.requires.1.1 c.if-e-nest.false c.close_record.ensures
