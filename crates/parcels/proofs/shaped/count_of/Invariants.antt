-- `parcels::shaped::count_of` meets its contract: the cells of the first r rows are counted.
use Rattle.parcels.proofs.shaped.Found.{Counting}
use Rattle.parcels.proofs.shaped.count_of.Given as goal

abbrev pub invariant-loop-r : goal.invariant-loop-r
invariant-loop-r l = Counting l.layout.nest l.rows l.count l.r
