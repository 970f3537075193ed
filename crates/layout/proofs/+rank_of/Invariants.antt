-- `layout::rank_of` meets its contract: the rank of the dimensions left, times the length, plus the component. `left` falls.
use Rattle.layout.proofs.+rank_of.Given as goal

abbrev pub decreases-rank_of : goal.decreases-rank_of
decreases-rank_of l = l.left
