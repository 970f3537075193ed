-- `values::row_values::margin_of` meets its contract: the most of the first e distances.
use Prim.Native.Nat.{◌-◌}
use Rattle.values.proofs.row_values.Margins.{Mosting}
use Rattle.values.proofs.row_values.margin_of.Given as goal

abbrev pub invariant-loop-e : goal.invariant-loop-e
invariant-loop-e l = Mosting l.components l.j l.n l.most l.e

abbrev pub decreases-loop-e : goal.decreases-loop-e
decreases-loop-e l = l.n - l.e
