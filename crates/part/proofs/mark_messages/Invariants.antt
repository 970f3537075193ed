-- `mark_messages` meets its contract: the slots passed.
use Prim.Native.Nat.{◌-◌}
use mathlib.Core.Path.{◌≡◌}
use lib.ListN.{length}
use Rattle.plan.specs.Shaped.{plan_of}
use Rattle.part.proofs.Slots as pass
use Rattle.part.proofs.Brought as brings
use Rattle.part.proofs.mark_messages.Given as goal

abbrev pub invariant-loop-slot : goal.invariant-loop-slot
invariant-loop-slot l = (pass.Past l.table.lens.now l.slots l.slot l.number l.offset × brings.Keeping (plan_of l.table.layout.sizes.route l.table.layout.nest) l.b l.marks l.number) × (length l.list ≡ 16384)

abbrev pub decreases-loop-slot : goal.decreases-loop-slot
decreases-loop-slot l = l.slots - l.slot
