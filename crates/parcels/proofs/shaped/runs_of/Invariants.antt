-- `parcels::shaped::runs_of` meets its contract: the runs of the first e distances.
use Prim.Native.Nat.{◌≤◌}
use Rattle.layout.specs.Places.{nth}
use Rattle.parcels.specs.Windows.{window_of}
use Rattle.parcels.specs.shaped.Runs.{reaches_place}
use Rattle.parcels.proofs.shaped.Runs as R
use Rattle.parcels.proofs.shaped.runs_of.Given as goal

abbrev pub invariant-loop-e : goal.invariant-loop-e
invariant-loop-e l = (l.e ≤ l.nest.distances) × R.Gathered l.nest (nth l.at) (reaches_place l.nest (window_of l.window)) l.starts l.ends l.runs l.e
