-- `runs::row_words::unpack_row` meets its contract: the words of the pieces before `at` are at their cells.
use Prim.Native.Nat.{◌-◌}
use Rattle.runs.proofs.Laws as L
use Rattle.runs.proofs.row_words.unpack_row.Given as goal

abbrev pub invariant-loop-at : goal.invariant-loop-at
invariant-loop-at l = L.Unpacking l.starts l.ends l.n l.from l.component l.width l.initial.memory l.words l.unpacked l.memory l.at l.count

abbrev pub decreases-loop-at : goal.decreases-loop-at
decreases-loop-at l = l.to - l.at
