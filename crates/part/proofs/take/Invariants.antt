-- `take` meets its contract: the cells passed.
use Prim.Native.Nat.{◌-◌}
use lib.ListN.{length}
use Rattle.part.proofs.Words as laws
use Rattle.part.proofs.take.Given as goal

abbrev pub invariant-loop-i : goal.invariant-loop-i
invariant-loop-i l = laws.Taking l.marks l.cells l.initial.memory l.words l.memory l.known l.at l.i

abbrev pub decreases-loop-i : goal.decreases-loop-i
decreases-loop-i l = length l.cells - l.i
