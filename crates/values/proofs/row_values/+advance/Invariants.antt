-- `values::row_values::advance` meets its contract: the last component one more, or the first again and the same before it. `left` falls.
use Rattle.values.proofs.row_values.+advance.Given as goal

abbrev pub decreases-advance : goal.decreases-advance
decreases-advance l = l.left
