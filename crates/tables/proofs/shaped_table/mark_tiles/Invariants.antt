-- `tables::shaped_table::mark_tiles` meets its contract: the marks tell the tiles that hold a cell of the rows so far.
use Prim.Native.Nat.{◌-◌, ◌≤◌}
use Rattle.nest.proofs.Shapes as S
use Rattle.nest.proofs.Shapes.{framed, box_tiles_most}
use Rattle.tables.proofs.shaped_table.mark_tiles.Given as goal

abbrev pub invariant-loop-q : goal.invariant-loop-q
invariant-loop-q l = (l.q ≤ l.rows) × S.Counting l.nest l.q l.marks

abbrev pub decreases-loop-q : goal.decreases-loop-q
decreases-loop-q l = l.rows - l.q
