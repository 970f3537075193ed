-- `tables::boxes::nth_at` meets its contract: not among the first ways.
use Rattle.tables.proofs.boxes.Ends as E
use Rattle.tables.proofs.boxes.nth_at.Given as goal

abbrev pub invariant-loop-slot : goal.invariant-loop-slot
invariant-loop-slot l = E.Missing l.fn.layout.sizes.route l.fn.layout.nest l.ends l.j l.slot-index
