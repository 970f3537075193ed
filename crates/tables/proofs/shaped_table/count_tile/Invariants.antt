-- `tables::shaped_table::count_tile` meets its contract: the lengths of the first parcels of the tile.
use Prim.Native.Nat.{◌+◌, ◌*◌, ◌-◌, ◌≤◌}
use Rattle.plan.specs.Messages.{directions}
use Rattle.tables.specs.shaped_table.Table.{Filling}
use Rattle.tables.proofs.shaped_table.count_tile.Given as goal

abbrev pub invariant-loop-way : goal.invariant-loop-way
invariant-loop-way l = Filling l.layout.nest l.lens (l.tile * directions l.layout.nest + l.way) × (l.way ≤ l.n)

abbrev pub decreases-loop-way : goal.decreases-loop-way
decreases-loop-way l = l.n - l.way
