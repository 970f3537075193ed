-- `mark_cells` meets its contract: the cells passed.
use Prim.Native.Nat.{◌-◌}
use lib.ListN.{length}
use Rattle.part.proofs.Brought as brings
use Rattle.part.proofs.mark_cells.Given as goal

abbrev pub invariant-loop-c : goal.invariant-loop-c
invariant-loop-c l = brings.MarkingList l.initial.marks l.cells l.marks l.c-index

abbrev pub decreases-loop-c : goal.decreases-loop-c
decreases-loop-c l = length l.cells - l.c-index
