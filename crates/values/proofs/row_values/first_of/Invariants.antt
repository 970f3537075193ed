-- `values::row_values::first_of` meets its contract: the first j components can be taken away.
use Prim.Native.Nat.{◌+◌, ◌*◌, ◌-◌}
use lib.ListN.{get_or}
use lib.Dec.{leb}
use Rattle.layout.proofs.Loops.{Sofar}
use Rattle.values.proofs.row_values.first_of.Given as goal

abbrev pub invariant-loop-j : goal.invariant-loop-j
invariant-loop-j l = Sofar (λ q. leb (get_or l.components (4 * l.e + q) 0) (get_or l.at q 0)) l.last l.j

abbrev pub decreases-loop-j : goal.decreases-loop-j
decreases-loop-j l = l.last - l.j
