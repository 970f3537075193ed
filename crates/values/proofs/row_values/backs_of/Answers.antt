-- `values::row_values::backs_of` meets its contract: those of the first e distances.
use native.Mathlib.Omega.{arith}
use Rattle.layout.proofs.Loops.{filled_none, filled_more, filled_end}
use Rattle.values.proofs.row_values.backs_of.Goals as goal

pub loop-e-init : goal.loop-e-init
loop-e-init c = filled_none _ _ _ (omega arith)

pub back_of-requires : goal.back_of-requires
back_of-requires c = (c.requires.0, (c.loop-e-test.true, c.requires.1))

pub loop-e-preserved : goal.loop-e-preserved
loop-e-preserved c = filled_more _ _ _ _ _ c.loop-e.invariant c.loop-e-test.true c.requires.0.distances_most c.back_of.ensures

pub returns : goal.returns
returns c = record { each = (filled_end _ _ _ _ c.loop-e.invariant c.loop-e-test.false).each }
