-- The slots so far: each message of theirs is found by the list.
use Rattle.schedule.proofs.Listing as L
use Rattle.schedule.proofs.index.list_spots.Given as goal

abbrev pub invariant-loop-slot : goal.invariant-loop-slot
invariant-loop-slot l = L.ListLoop l.lens l.slots l.spots l.slot l.number l.offset
