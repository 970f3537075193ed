-- `fill_ranks` meets its contract: the slots passed.
use Prim.Native.Nat.{◌-◌}
use Rattle.plan.specs.Shaped.{plan_of}
use Rattle.part.proofs.Slots as pass
use Rattle.part.proofs.Handling as handling
use Rattle.part.proofs.fill_ranks.Given as goal

abbrev pub invariant-loop-slot : goal.invariant-loop-slot
invariant-loop-slot l = pass.Past l.table.lens.now l.slots l.slot l.number l.offset × handling.Ranked (plan_of l.table.layout.sizes.route l.table.layout.nest) l.b l.ordinals l.starts l.number l.offset l.rank l.at

abbrev pub decreases-loop-slot : goal.decreases-loop-slot
decreases-loop-slot l = l.slots - l.slot
