-- `tables::boxes::fill` meets its contract: the lengths of the first tiles' parcels are in the table.
use Prim.Native.Nat.{◌-◌, ◌*◌}
use Rattle.tables.specs.boxes.Table.{Filling}
use Rattle.tables.proofs.boxes.fill.Given as goal

abbrev pub invariant-loop-tile : goal.invariant-loop-tile
invariant-loop-tile l = Filling l.layout.sizes.route l.layout.nest l.lens (l.tile * l.layout.sizes.ways)

abbrev pub decreases-loop-tile : goal.decreases-loop-tile
decreases-loop-tile l = l.tiles - l.tile
