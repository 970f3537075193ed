-- `values::row_values::lasts_of` meets its contract: those of the first e distances.
use Prim.Native.Nat.{◌+◌, ◌*◌, ◌-◌}
use lib.ListN.{get_or}
use Rattle.layout.proofs.Loops.{Filled}
use Rattle.values.proofs.row_values.lasts_of.Given as goal

abbrev pub invariant-loop-e : goal.invariant-loop-e
invariant-loop-e l = Filled 8 (λ d. get_or l.components (4 * d + l.last) 0) l.n l.first l.e

abbrev pub decreases-loop-e : goal.decreases-loop-e
decreases-loop-e l = l.n - l.e
