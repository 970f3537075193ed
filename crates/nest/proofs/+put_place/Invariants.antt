-- `nest::put_place` meets its contract: what is written is the remainder, the rest is the place of the quotient. `left` falls.
use Rattle.nest.proofs.+put_place.Given as goal

abbrev pub decreases-put_place : goal.decreases-put_place
decreases-put_place l = l.left
