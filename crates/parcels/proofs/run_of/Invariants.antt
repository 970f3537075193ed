-- `parcels::run_of` meets its contract: the highest of the ends so far, none below the row's first component.
use Rattle.parcels.proofs.Windows.{Highest}
use Rattle.parcels.proofs.run_of.Given as goal

abbrev pub invariant-loop-last : goal.invariant-loop-last
invariant-loop-last l = Highest l.fn.ends l.fn.n l.component l.end l.last-index
