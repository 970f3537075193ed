-- `values::shaped_values::reads_of` meets its contract: those of the first e distances.
use native.Mathlib.Omega.{arith}
use Rattle.values.proofs.shaped_values.Runs.{filling_none, filling_more, filling_end}
use Rattle.values.proofs.shaped_values.reads_of.Goals as goal

pub loop-e-init : goal.loop-e-init
loop-e-init c = filling_none _ _ _ _ (omega arith) (omega arith)

pub read_of-run-requires : goal.read_of-run-requires
read_of-run-requires c = (c.requires.0, (c.loop-e-test.true, (c.requires.1.0, c.requires.1.1)))

pub loop-e-preserved : goal.loop-e-preserved
loop-e-preserved c =
    filling_more _ _ _ _ _ _ _ c.loop-e.invariant c.loop-e-test.true c.requires.0.distances_most
    c.read_of-run.ensures

pub returns : goal.returns
returns c = filling_end _ _ _ _ _ c.loop-e.invariant c.loop-e-test.false
