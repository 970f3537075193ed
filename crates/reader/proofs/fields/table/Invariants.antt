-- `reader::fields::table` meets its contract: the first i are made.
use Prim.Native.Nat.{◌≤◌}
use Rattle.reader.specs.Tables.{IsTable}
use Rattle.reader.proofs.fields.table.Given as goal

abbrev pub invariant-loop-i : goal.invariant-loop-i
invariant-loop-i g l = (l.i ≤ l.n) × IsTable (goal.F-post g l.of) l.fn.none g.row.N l.i l.table
