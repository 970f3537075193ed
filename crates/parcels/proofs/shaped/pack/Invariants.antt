-- `parcels::shaped::pack` meets its contract: the words of the first r rows are packed.
use Rattle.parcels.proofs.shaped.Found.{Packing}
use Rattle.parcels.proofs.shaped.pack.Given as goal

abbrev pub invariant-loop-r : goal.invariant-loop-r
invariant-loop-r l = Packing l.layout.nest l.rows l.memory l.words l.count l.r
