-- `parcels::rows_alike` meets its contract: so many rows are alike for the first e distances.
use Rattle.parcels.proofs.Alike.{Steady}
use Rattle.parcels.proofs.rows_alike.Given as goal

abbrev pub invariant-loop-e : goal.invariant-loop-e
invariant-loop-e l = Steady l.components l.j l.component l.low l.high l.fn.nest.distances l.initial.rows l.rows l.e
