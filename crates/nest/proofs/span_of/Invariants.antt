-- `nest::span_of` meets its contract: each bound cuts what those before it left.
use Prim.Native.Nat.{◌-◌}
use Rattle.nest.proofs.Cuts as C
use Rattle.nest.proofs.span_of.Given as goal

abbrev pub invariant-loop-k : goal.invariant-loop-k
invariant-loop-k l = C.Cutting l.nest l.at l.k l.left

abbrev pub decreases-loop-k : goal.decreases-loop-k
decreases-loop-k l = l.nest.bounds - l.k
