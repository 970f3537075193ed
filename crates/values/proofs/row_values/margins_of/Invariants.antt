-- `values::row_values::margins_of` meets its contract: the array is filled from its start.
use Prim.Native.Nat.{◌-◌}
use Rattle.values.specs.row_values.Waves.{most_of}
use Rattle.layout.proofs.Loops.{Filled}
use Rattle.values.proofs.row_values.margins_of.Given as goal

abbrev pub invariant-loop-j : goal.invariant-loop-j
invariant-loop-j l = Filled 4 (λ q. most_of l.nest q l.nest.distances) l.n l.margin l.j

abbrev pub decreases-loop-j : goal.decreases-loop-j
decreases-loop-j l = l.n - l.j
