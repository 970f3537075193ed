-- What is left to send gives the same.
use Rattle.std.specs.Prelude.{◌-◌, length}
use Rattle.plan.specs.Shaped.{plan_of}
use Rattle.schedule.proofs.Laws as laws
use Rattle.schedule.proofs.send.Given as goal

abbrev pub invariant-loop-m : goal.invariant-loop-m
invariant-loop-m l = laws.SendLoop (plan_of l.table.layout.sizes.route l.table.layout.nest) l.t l.memory l.initial.buffer l.initial.status l.buffer l.status l.m

abbrev pub decreases-loop-m : goal.decreases-loop-m
decreases-loop-m l = length l.initial.status - l.m
