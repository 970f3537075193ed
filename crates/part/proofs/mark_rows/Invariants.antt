-- `mark_rows` meets its contract: the rows passed.
use Prim.Native.Nat.{◌-◌, ◌*◌, ◌≤◌}
use Rattle.part.specs.Marking.{row_cells, Shown}
use Rattle.part.proofs.mark_rows.Given as goal

abbrev pub invariant-loop-q : goal.invariant-loop-q
invariant-loop-q l = ((l.from ≤ l.q) × (l.q ≤ l.to)) × Shown l.nest (l.from * row_cells l.nest) (l.q * row_cells l.nest) l.initial.marks l.marks

abbrev pub decreases-loop-q : goal.decreases-loop-q
decreases-loop-q l = l.to - l.q
