-- `values::row_values::firsts_of` meets its contract: those of the first e distances.
use Prim.Native.Nat.{◌-◌}
use Rattle.nest.specs.declared.Nest.{Nest}
use Rattle.nest.specs.Accepted.{Accepted}
use Rattle.layout.specs.CellRows.{Given}
use Rattle.values.specs.row_values.Reads.{first_read}
use Rattle.values.specs.row_values.Given.{with_body}
use Rattle.layout.proofs.Loops.{Filled}
use Rattle.values.proofs.row_values.firsts_of.Given as goal

abbrev pub invariant-loop-e : goal.invariant-loop-e
invariant-loop-e l = (x : Nest) → Accepted (with_body x l.body) → Given (with_body x l.body) l.components → Filled 8 (first_read (with_body x l.body) l.at) l.body.distances l.first l.e

abbrev pub decreases-loop-e : goal.decreases-loop-e
decreases-loop-e l = l.n - l.e
