-- `runs::row_words::pack_row` meets its contract: the pieces before `at` are packed.
use Prim.Native.Nat.{◌-◌}
use Rattle.runs.proofs.Laws as L
use Rattle.runs.proofs.row_words.pack_row.Given as goal

abbrev pub invariant-loop-at : goal.invariant-loop-at
invariant-loop-at l = L.Packing l.starts l.ends l.n l.from l.component l.width l.memory l.initial.words l.packed l.words l.at l.count

abbrev pub decreases-loop-at : goal.decreases-loop-at
decreases-loop-at l = l.to - l.at
