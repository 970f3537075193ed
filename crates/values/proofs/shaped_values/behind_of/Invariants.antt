-- `values::shaped_values::behind_of` meets its contract: the components before the last are taken away, from the first on.
use Prim.Native.Nat.{◌+◌, ◌*◌, ◌-◌}
use lib.ListN.{get_or}
use Rattle.layout.proofs.Loops.{Changed}
use Rattle.values.proofs.shaped_values.behind_of.Given as goal

abbrev pub invariant-loop-j : goal.invariant-loop-j
invariant-loop-j l = Changed (λ q. get_or l.at q 0 - get_or l.components (4 * l.e + q) 0) l.last l.at l.to l.j

abbrev pub decreases-loop-j : goal.decreases-loop-j
decreases-loop-j l = l.last - l.j
