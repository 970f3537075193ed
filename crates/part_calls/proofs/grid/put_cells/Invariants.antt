-- `grid::put_cells` meets its contract: the words passed are the grid's, the rest as it was.
use Rattle.std.specs.Prelude.{◌-◌, length}
use Rattle.part_calls.proofs.Collecting as collecting
use Rattle.part_calls.proofs.grid.put_cells.Given as goal

abbrev pub invariant-loop-c : goal.invariant-loop-c
invariant-loop-c l = collecting.Putting l.owned l.kept l.memory l.initial.grid l.grid l.c l.n

abbrev pub decreases-loop-c : goal.decreases-loop-c
decreases-loop-c l = length l.initial.grid - l.c
