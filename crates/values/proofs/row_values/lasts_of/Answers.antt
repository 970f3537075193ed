-- `values::row_values::lasts_of` meets its contract: those of the first e distances.
use native.Mathlib.Omega.{arith}
use mathlib.Core.Path.{refl}
use Rattle.layout.proofs.Loops.{filled_none, filled_more, filled_end}
use Rattle.values.proofs.row_values.Margins.{lasts_are}
use Rattle.values.proofs.row_values.lasts_of.Goals as goal

pub loop-e-init : goal.loop-e-init
loop-e-init c = filled_none _ _ _ (omega arith)

pub loop-e-preserved : goal.loop-e-preserved
loop-e-preserved c = filled_more _ _ _ _ _ c.loop-e.invariant c.loop-e-test.true c.requires.0.distances_most refl

pub returns : goal.returns
returns c = lasts_are _ _ _ c.requires.1 (filled_end _ _ _ _ c.loop-e.invariant c.loop-e-test.false).each
