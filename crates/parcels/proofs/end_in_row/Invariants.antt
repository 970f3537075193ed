-- `parcels::end_in_row` meets its contract: the first j components come into the window.
use Rattle.layout.proofs.Loops.{Sofar}
use Rattle.parcels.proofs.Windows.{carried}
use Rattle.parcels.proofs.end_in_row.Given as goal

abbrev pub invariant-loop-j : goal.invariant-loop-j
invariant-loop-j l = Sofar (carried l.components l.window l.at l.e) l.last l.j
