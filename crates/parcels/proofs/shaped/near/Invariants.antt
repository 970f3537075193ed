-- `parcels::shaped::near` meets its contract: the box in the first j dimensions.
use Rattle.layout.proofs.Loops.{Filled}
use Rattle.parcels.proofs.shaped.Rows as R
use Rattle.parcels.proofs.shaped.near.Given as goal

abbrev pub invariant-loop-j : goal.invariant-loop-j
invariant-loop-j l = Filled 4 (R.corners l.sending l.most) l.nest.dimensions l.corner l.j × Filled 4 (R.sides l.sending l.most) l.nest.dimensions l.lengths l.j
