-- `values::shaped_values::store_row` meets its contract: the first y cells are stored.
use Prim.Native.Nat.{◌-◌}
use Rattle.kernels.proofs.Sums.{Rowing}
use Rattle.values.specs.shaped_values.Rows.{mixed_along}
use Rattle.values.proofs.shaped_values.store_row.Given as goal

abbrev pub invariant-loop-y : goal.invariant-loop-y
invariant-loop-y l = Rowing (mixed_along l.n l.firsts l.ends l.backs l.weights l.boundary l.shift l.source l.from l.cell l.component) l.initial.memory l.memory l.cell l.width l.y

abbrev pub decreases-loop-y : goal.decreases-loop-y
decreases-loop-y l = l.width - l.y
