-- `put_sides` meets its contract: the ways passed.
use Prim.Native.Nat.{◌-◌}
use lib.ListN.{length}
use Rattle.base.proofs.Stored as stored
use Rattle.part.specs.Marking.{side_of}
use Rattle.part.proofs.put_sides.Given as goal

abbrev pub invariant-loop-w : goal.invariant-loop-w
invariant-loop-w l = stored.Stored (side_of l.layout.sizes.route l.layout.nest l.b l.tile) l.initial.row l.row l.w

abbrev pub decreases-loop-w : goal.decreases-loop-w
decreases-loop-w l = length l.initial.row - l.w
