-- `tables::message_cells::list_shaped` meets its contract: the cells of the first r rows are listed.
use Prim.Native.Nat.{◌-◌}
use Rattle.parcels.proofs.shaped.Found.{Packing}
use Rattle.runs.specs.listed.Numbers.{numbers}
use Rattle.tables.proofs.message_cells.list_shaped.Given as goal

abbrev pub invariant-loop-r : goal.invariant-loop-r
invariant-loop-r l = Packing l.layout.nest l.rows numbers l.cells l.count l.r

abbrev pub decreases-loop-r : goal.decreases-loop-r
decreases-loop-r l = l.n - l.r
