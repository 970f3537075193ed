-- What is left to look at decides.
use Rattle.std.specs.Prelude.{◌-◌, length}
use Rattle.plan.specs.Shaped.{plan_of}
use Rattle.schedule.proofs.Laws as laws
use Rattle.schedule.proofs.ready.Given as goal

abbrev pub invariant-loop-m : goal.invariant-loop-m
invariant-loop-m l = laws.ReadyLoop (plan_of l.layout.sizes.route l.layout.nest) l.t l.status l.m

abbrev pub decreases-loop-m : goal.decreases-loop-m
decreases-loop-m l = length l.status - l.m
