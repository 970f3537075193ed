-- `tables::shaped_table::rows::inner_of` meets its contract: what the first k bounds leave.
use Prim.Native.Nat.{◌-◌, ◌≤◌}
use Rattle.tables.specs.shaped_table.Lines.{Inner}
use Rattle.tables.proofs.shaped_table.rows.inner_of.Given as goal

abbrev pub invariant-loop-k : goal.invariant-loop-k
invariant-loop-k l = Inner l.nest l.area l.k l.left × (l.k ≤ l.n)

abbrev pub decreases-loop-k : goal.decreases-loop-k
decreases-loop-k l = l.n - l.k
