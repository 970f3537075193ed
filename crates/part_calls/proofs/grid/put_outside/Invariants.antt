-- `grid::put_outside` meets its contract: the rows passed, the rest as it was.
use Rattle.std.specs.Prelude.{◌-◌, ◌*◌, ◌≤◌}
use Rattle.part_calls.specs.Given.{outside_word}
use Rattle.part_calls.proofs.Collecting as collecting
use Rattle.part_calls.proofs.grid.put_outside.Given as goal

abbrev pub invariant-loop-q : goal.invariant-loop-q
invariant-loop-q l = (l.q ≤ l.rows) × collecting.Filled (outside_word l.layout.nest l.initial.grid) l.initial.grid l.grid (l.q * l.width)

abbrev pub decreases-loop-q : goal.decreases-loop-q
decreases-loop-q l = l.rows - l.q
