-- The messages left to gather give the same memory and marks.
use Rattle.std.specs.Prelude.{◌≡◌, ◌-◌, length}
use Rattle.plan.specs.Shaped.{plan_of}
use Rattle.part.specs.Part.{all_of}
use Rattle.part_calls.proofs.turn.Working as working
use Rattle.part_calls.proofs.turn.on_part.gather.Given as goal

abbrev pub invariant-loop-j : goal.invariant-loop-j
invariant-loop-j l =
    (length l.memory ≡ length l.initial.memory)
    × working.Gathering l.table.layout.sizes.route l.table.layout.nest l.tile l.ordinals l.starts l.mail (all_of (plan_of l.table.layout.sizes.route l.table.layout.nest) l.b l.initial.memory) l.initial.marks
    (all_of (plan_of l.table.layout.sizes.route l.table.layout.nest) l.b l.memory) l.marks l.n l.j

abbrev pub decreases-loop-j : goal.decreases-loop-j
decreases-loop-j l = l.n - l.j
