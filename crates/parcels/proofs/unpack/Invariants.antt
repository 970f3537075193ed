-- `parcels::unpack` meets its contract: the words of the first r rows are at their cells.
use Prim.Native.Nat.{◌-◌, ◌*◌}
use Rattle.parcels.proofs.Walks.{Unpacking}
use Rattle.parcels.proofs.unpack.Given as goal

abbrev pub invariant-loop-r : goal.invariant-loop-r
invariant-loop-r l = Unpacking l.layout.nest l.sending l.initial.memory l.words l.memory l.count (l.r * l.sending.width)

abbrev pub decreases-loop-r : goal.decreases-loop-r
decreases-loop-r l = l.sending.rows - l.r
