-- `values::row_values::box_rows` meets its contract: the rows up to r are stored.
use Prim.Native.Nat.{◌-◌, ◌≤◌}
use Rattle.nest.specs.declared.Nest.{Nest}
use Rattle.values.specs.row_values.Given.{with_body}
use Rattle.values.specs.row_values.Boxes.{RowsGiven, Stored}
use Rattle.values.proofs.row_values.box_rows.Given as goal

abbrev pub invariant-loop-r : goal.invariant-loop-r
invariant-loop-r l =
    (l.first ≤ l.r) × ((l.r ≤ l.end) × ((x : Nest) → RowsGiven (with_body x l.body) l.components l.lasts l.back l.weights l.margin l.source l.initial.memory l.grid l.lengths l.corner l.initial.at l.first
    → Stored (with_body x l.body) l.source l.lengths l.corner l.initial.memory l.memory l.at l.first (l.r - l.first)))

abbrev pub decreases-loop-r : goal.decreases-loop-r
decreases-loop-r l = l.end - l.r
