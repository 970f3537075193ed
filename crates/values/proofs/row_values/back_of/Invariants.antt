-- `values::row_values::back_of` meets its contract: the rank of the distance's first j components.
use Prim.Native.Nat.{◌-◌}
use Rattle.values.proofs.row_values.Words.{Backing}
use Rattle.values.proofs.row_values.back_of.Given as goal

abbrev pub invariant-loop-j : goal.invariant-loop-j
invariant-loop-j l = Backing l.lengths l.components l.e l.n l.back l.j

abbrev pub decreases-loop-j : goal.decreases-loop-j
decreases-loop-j l = l.n - l.j
