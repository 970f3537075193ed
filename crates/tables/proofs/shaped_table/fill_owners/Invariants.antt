-- `tables::shaped_table::fill_owners` meets its contract: the processors of the first t tiles, and that of those next in the row.
use Prim.Native.Nat.{ℕ, ◌-◌, ◌≤◌, ◌<◌}
use Rattle.nest.specs.Shape.{tiles}
use Rattle.plan.specs.Shaped.{box_tile}
use Rattle.tables.specs.shaped_table.Table.{Owned}
use Rattle.tables.specs.shaped_table.Lines.{OneProcessor}
use Rattle.tables.proofs.shaped_table.fill_owners.Given as goal

abbrev pub invariant-loop-t : goal.invariant-loop-t
invariant-loop-t l = Owned l.layout.nest l.lens l.t × ((l.t ≤ l.n) × ((s : ℕ) → l.t ≤ s → s < tiles l.layout.nest → OneProcessor l.layout.nest (box_tile l.layout.nest s) l.owner.number l.owner.end))

abbrev pub decreases-loop-t : goal.decreases-loop-t
decreases-loop-t l = l.n - l.t
