-- `parcels::rows_alike` meets its contract: so many rows are alike for the first e distances.
use native.Mathlib.Omega.{arith}
use mathlib.Core.Path.{refl}
use Rattle.parcels.proofs.Alike.{steady_none, steady_more, steady_end}
use Rattle.parcels.proofs.rows_alike.Goals as goal

pub loop-e-init : goal.loop-e-init
loop-e-init c = steady_none _ _ _ _ _ _ _ (omega (arith, c.requires.1.1.low))

pub loop-e-preserved : goal.loop-e-preserved
loop-e-preserved c = steady_more _ _ _ _ _ _ _ _ _ _ _ c.loop-e.invariant c.loop-e-test.true c.unchanged.ensures c.min-rows.ensures

pub returns : goal.returns
returns c =
    steady_end _ _ _ _ _ _ _ _ _ c.loop-e.invariant c.loop-e-test.false _ _ _ _ c.requires.1.0 refl refl refl refl refl
    (omega (arith, c.requires.1.1.low))
