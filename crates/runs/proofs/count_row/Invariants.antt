-- `runs::count_row` meets its contract: the cells before `at` are counted.
use Prim.Native.Nat.{◌-◌}
use Rattle.runs.proofs.Laws as L
use Rattle.runs.proofs.count_row.Given as goal

abbrev pub invariant-loop-at : goal.invariant-loop-at
invariant-loop-at l = L.Counts l.starts l.ends l.n l.component l.width l.at l.count

abbrev pub decreases-loop-at : goal.decreases-loop-at
decreases-loop-at l = l.to - l.at
