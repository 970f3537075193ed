-- `tables::message_cells::list_row` meets its contract: the pieces before `at` are listed.
use Prim.Native.Nat.{◌-◌}
use Rattle.runs.proofs.Laws as runs
use Rattle.runs.specs.listed.Numbers.{numbers}
use Rattle.tables.proofs.message_cells.list_row.Given as goal

abbrev pub invariant-loop-at : goal.invariant-loop-at
invariant-loop-at l = runs.Packing l.starts l.ends l.n l.from l.component l.width numbers l.initial.cells l.listed l.cells l.at l.count

abbrev pub decreases-loop-at : goal.decreases-loop-at
decreases-loop-at l = l.to - l.at
