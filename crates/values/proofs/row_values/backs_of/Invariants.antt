-- `values::row_values::backs_of` meets its contract: those of the first e distances.
use Prim.Native.Nat.{◌-◌}
use Rattle.values.specs.row_values.Reads.{step_back}
use Rattle.layout.proofs.Loops.{Filled}
use Rattle.values.proofs.row_values.backs_of.Given as goal

abbrev pub invariant-loop-e : goal.invariant-loop-e
invariant-loop-e l = Filled 8 (step_back l.nest) l.nest.distances l.back l.e

abbrev pub decreases-loop-e : goal.decreases-loop-e
decreases-loop-e l = l.n - l.e
