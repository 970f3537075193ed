-- `tables::boxes::count_tile` meets its contract: the lengths of the slots before are in the table too.
use Rattle.tables.specs.boxes.Table.{Filling}
use Rattle.tables.proofs.boxes.count_tile.Given as goal

abbrev pub invariant-loop-slot : goal.invariant-loop-slot
invariant-loop-slot l = Filling l.layout.sizes.route l.layout.nest l.lens l.slot
