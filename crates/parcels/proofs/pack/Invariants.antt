-- `parcels::pack` meets its contract: the words of the first r rows are packed.
use Prim.Native.Nat.{◌-◌, ◌*◌}
use Rattle.parcels.proofs.Packing.{PackedTo}
use Rattle.parcels.proofs.pack.Given as goal

abbrev pub invariant-loop-r : goal.invariant-loop-r
invariant-loop-r l = PackedTo l.layout.nest l.sending l.memory l.words l.count (l.r * l.sending.width)

abbrev pub decreases-loop-r : goal.decreases-loop-r
decreases-loop-r l = l.sending.rows - l.r
