-- `parcels::beyond_last` meets its contract: none of the first j components is beyond.
use Prim.Native.Nat.{◌+◌}
use lib.ListN.{get_or}
use lib.Dec.{leb}
use Rattle.layout.proofs.Loops.{Nowhere}
use Rattle.parcels.proofs.beyond_last.Given as goal

abbrev pub invariant-loop-j : goal.invariant-loop-j
invariant-loop-j l = Nowhere (λ i. leb (get_or l.across i 0) (get_or l.at i 0 + get_or l.ahead i 0)) l.n l.j
