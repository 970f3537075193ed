-- `parcels::ends_of` meets its contract: those of the first e distances.
use native.Mathlib.Omega.{arith}
use Rattle.parcels.proofs.Windows.{ending_none, ending_more, ending_end}
use Rattle.parcels.proofs.ends_of.Goals as goal

pub loop-e-init : goal.loop-e-init
loop-e-init c = ending_none _ _ _ _ (omega arith)

pub end_in_row-requires : goal.end_in_row-requires
end_in_row-requires c = record { accepted = (c.requires.accepted.0, (c.loop-e-test.true, c.requires.accepted.1)); dimensions_value = c.requires.dimensions_value }

pub loop-e-preserved : goal.loop-e-preserved
loop-e-preserved c =
    ending_more _ _ _ _ _ _ c.loop-e.invariant c.loop-e-test.true
    c.requires.accepted.0.distances_most c.end_in_row.ensures

pub returns : goal.returns
returns c = ending_end _ _ _ _ _ c.loop-e.invariant c.loop-e-test.false
