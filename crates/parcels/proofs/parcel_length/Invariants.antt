-- `parcels::parcel_length` meets its contract: the cells found in the first r rows of the box are counted.
use Prim.Native.Nat.{◌-◌, ◌*◌}
use Rattle.parcels.proofs.Walks.{Measuring}
use Rattle.parcels.proofs.parcel_length.Given as goal

abbrev pub invariant-loop-r : goal.invariant-loop-r
invariant-loop-r l = Measuring l.layout.nest l.sending l.count (l.r * l.sending.width)

abbrev pub decreases-loop-r : goal.decreases-loop-r
decreases-loop-r l = l.sending.rows - l.r
