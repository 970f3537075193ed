-- `writer::table` meets its contract: the first i are made.
use Rattle.writer.proofs.Tables as T
use Rattle.writer.proofs.table.Given as goal

abbrev pub invariant-loop-i : goal.invariant-loop-i
invariant-loop-i g l = T.Filling (goal.F-post g l.of) l.values l.fn.none g.row.N l.table l.i
