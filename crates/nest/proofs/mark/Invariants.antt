-- `nest::mark` meets its contract: the places that the loop has passed are marked.
use Prim.Native.Nat.{◌-◌}
use Rattle.nest.proofs.Cuts as C
use Rattle.nest.proofs.mark.Given as goal

abbrev pub invariant-loop-u : goal.invariant-loop-u
invariant-loop-u l = C.Marking l.initial.marks l.from l.to l.marks l.u

abbrev pub decreases-loop-u : goal.decreases-loop-u
decreases-loop-u l = l.to - l.u
