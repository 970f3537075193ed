-- `values::shaped_values::reads_of` meets its contract: those of the first e distances.
use Prim.Native.Nat.{◌-◌}
use Rattle.values.proofs.shaped_values.Runs.{Filling}
use Rattle.values.proofs.shaped_values.reads_of.Given as goal

abbrev pub invariant-loop-e : goal.invariant-loop-e
invariant-loop-e l = Filling l.nest l.at l.firsts l.ends l.e

abbrev pub decreases-loop-e : goal.decreases-loop-e
decreases-loop-e l = l.n - l.e
