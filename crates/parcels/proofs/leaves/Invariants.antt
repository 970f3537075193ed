-- `parcels::leaves` meets its contract: none of the first j steps comes to another processor.
use lib.ListN.{get_or}
use lib.Dec.{ltb, eqb}
use Rattle.base.specs.Tests.{◌and◌}
use Rattle.layout.proofs.Loops.{Nowhere}
use Rattle.parcels.proofs.leaves.Given as goal

abbrev pub invariant-loop-j : goal.invariant-loop-j
invariant-loop-j l = Nowhere (λ i. eqb (get_or l.ahead i 0) 1 and ltb 1 (get_or l.counts i 0)) l.n l.j
