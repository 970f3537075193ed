-- `tables::shaped_table::fill` meets its contract: the lengths of the first tiles' parcels, and what is known of their row.
use Prim.Native.Nat.{◌-◌, ◌*◌, ◌≤◌}
use Rattle.plan.specs.Messages.{directions}
use Rattle.tables.specs.shaped_table.Table.{Filling}
use Rattle.tables.specs.shaped_table.Lines.{Lined}
use Rattle.tables.proofs.shaped_table.fill.Given as goal

abbrev pub invariant-loop-tile : goal.invariant-loop-tile
invariant-loop-tile l = Filling l.layout.nest l.lens (l.tile * directions l.layout.nest) × ((l.tile ≤ l.n) × (Lined l.layout.nest l.line.far l.line.from l.line.to × (l.back ≤ l.tile)))

abbrev pub decreases-loop-tile : goal.decreases-loop-tile
decreases-loop-tile l = l.n - l.tile
