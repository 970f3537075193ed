-- `layout::add_place` meets its contract: what is added is the remainder, the rest is the place of the quotient. `left` falls.
use Rattle.layout.proofs.+add_place.Given as goal

abbrev pub decreases-add_place : goal.decreases-add_place
decreases-add_place l = l.left
