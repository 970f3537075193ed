-- `tables::boxes::slots_at` meets its contract: those of the first ways.
use Prim.Native.Nat.{◌-◌}
use Rattle.tables.proofs.boxes.Ends as E
use Rattle.tables.proofs.boxes.slots_at.Given as goal

abbrev pub invariant-loop-way : goal.invariant-loop-way
invariant-loop-way l = E.Ending l.layout.sizes.route l.layout.nest l.side l.tile l.ends l.way

abbrev pub decreases-loop-way : goal.decreases-loop-way
decreases-loop-way l = l.n - l.way
