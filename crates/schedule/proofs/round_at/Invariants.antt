-- The latest round so far of the tiles that mail to it.
use Rattle.std.specs.Prelude.{◌-◌}
use Rattle.plan.specs.Shaped.{plan_of}
use Rattle.schedule.proofs.Telling as telling
use Rattle.schedule.proofs.round_at.Given as goal

abbrev pub invariant-loop-m : goal.invariant-loop-m
invariant-loop-m l = telling.DuesWalk (plan_of l.table.layout.sizes.route l.table.layout.nest) l.tile l.last l.latest l.m

abbrev pub decreases-loop-m : goal.decreases-loop-m
decreases-loop-m l = l.messages - l.m
