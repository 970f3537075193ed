-- `parcels::shaped::unpack` meets its contract: the words of the first r rows are at their cells.
use Rattle.parcels.proofs.shaped.Found.{Unpacking}
use Rattle.parcels.proofs.shaped.unpack.Given as goal

abbrev pub invariant-loop-r : goal.invariant-loop-r
invariant-loop-r l = Unpacking l.layout.nest l.rows l.initial.memory l.words l.memory l.count l.r
