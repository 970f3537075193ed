-- `marks_in` meets its contract: the marked ones passed.
use Rattle.rank_index.proofs.Marks as marked
use Rattle.rank_index.proofs.marks_in.Given as goal

abbrev pub invariant-loop-mark : goal.invariant-loop-mark
invariant-loop-mark l = marked.Passed l.marks l.mark-index l.n
