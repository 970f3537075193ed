-- `fill_sides` meets its contract: the tiles passed.
use Prim.Native.Nat.{◌-◌, ◌≤◌}
use Rattle.part.proofs.Chains as chains
use Rattle.part.proofs.fill_sides.Given as goal

abbrev pub invariant-loop-tile : goal.invariant-loop-tile
invariant-loop-tile l = (l.tile ≤ l.tiles) × chains.SidesTo l.table.layout.sizes.route l.table.layout.nest l.b l.sides l.tile l.known

abbrev pub decreases-loop-tile : goal.decreases-loop-tile
decreases-loop-tile l = l.tiles - l.tile
