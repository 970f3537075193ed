-- `tables::boxes::run_from` meets its contract: the dimensions from j on allow no tile back.
use Rattle.layout.specs.Places.{nth}
use Rattle.tables.proofs.boxes.Runs as R
use Rattle.tables.proofs.boxes.run_from.Given as goal

abbrev pub invariant-loop-j : goal.invariant-loop-j
invariant-loop-j l = R.Running (nth l.across) l.fn.layout.nest.dimensions l.tile l.j l.rest l.stride
