-- `parcels::ends_of` meets its contract: those of the first e distances.
use Rattle.layout.specs.Places.{nth}
use Rattle.parcels.specs.Windows.{window_of}
use Rattle.parcels.proofs.Windows.{Ending}
use Rattle.parcels.proofs.ends_of.Given as goal

abbrev pub invariant-loop-e : goal.invariant-loop-e
invariant-loop-e l = Ending l.nest (window_of l.window) (nth l.at) l.ends l.e
