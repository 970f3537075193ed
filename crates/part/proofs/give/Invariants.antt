-- `give` meets its contract: the cells passed.
use Prim.Native.Nat.{◌-◌}
use lib.ListN.{length}
use Rattle.part.proofs.Words as laws
use Rattle.part.proofs.give.Given as goal

abbrev pub invariant-loop-i : goal.invariant-loop-i
invariant-loop-i l = laws.Giving l.marks l.cells l.memory l.initial.words l.words l.known l.at l.i

abbrev pub decreases-loop-i : goal.decreases-loop-i
decreases-loop-i l = length l.cells - l.i
