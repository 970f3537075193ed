-- `parcels::shaped::farthest` meets its contract: the first i components go no farther.
use Rattle.parcels.proofs.shaped.Rows as R
use Rattle.parcels.proofs.shaped.farthest.Given as goal

abbrev pub invariant-loop-i : goal.invariant-loop-i
invariant-loop-i l = R.Most l.fn.nest.components l.most l.i
