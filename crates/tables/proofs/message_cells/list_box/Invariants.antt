-- `tables::message_cells::list_box` meets its contract: the cells of the first r rows are listed.
use Prim.Native.Nat.{◌-◌, ◌*◌}
use Rattle.parcels.proofs.Packing.{PackedTo}
use Rattle.runs.specs.listed.Numbers.{numbers}
use Rattle.tables.proofs.message_cells.list_box.Given as goal

abbrev pub invariant-loop-r : goal.invariant-loop-r
invariant-loop-r l = PackedTo l.layout.nest l.sending numbers l.cells l.count (l.r * l.sending.width)

abbrev pub decreases-loop-r : goal.decreases-loop-r
decreases-loop-r l = l.rows - l.r
