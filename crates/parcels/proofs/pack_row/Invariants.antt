-- `parcels::pack_row` meets its contract: between two cells, the words of the row's cells so far that are read are packed; between
use Prim.Native.Nat.{◌-◌}
use lib.ListN.{get_or}
use lib.Dec.{ltb}
use Rattle.parcels.proofs.Packing.{Packing, Searching}
use Rattle.parcels.proofs.pack_row.Given as goal

abbrev pub invariant-distances : goal.invariant-distances
invariant-distances l = Searching (λ d. ltb l.last (get_or l.ends d 0)) l.distances l.initial.words l.initial.count l.initial.y l.words l.count l.y l.e

abbrev pub decreases-distances : goal.decreases-distances
decreases-distances l = l.distances - l.e

abbrev pub invariant-cells : goal.invariant-cells
invariant-cells l = Packing l.ends l.distances l.from l.component l.width l.memory l.initial.words l.packed l.words l.count l.y

abbrev pub decreases-cells : goal.decreases-cells
decreases-cells l = l.width - l.y
