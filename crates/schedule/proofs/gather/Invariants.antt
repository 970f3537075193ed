-- What is left to gather gives the same.
use Rattle.std.specs.Prelude.{◌-◌, length}
use Rattle.schedule.proofs.Laws as laws
use Rattle.schedule.proofs.gather.Given as goal

abbrev pub invariant-loop-m : goal.invariant-loop-m
invariant-loop-m l = laws.GatherLoop l.table.layout.sizes.route l.table.layout.nest l.t l.buffer l.initial.memory l.initial.status l.memory l.status l.m

abbrev pub decreases-loop-m : goal.decreases-loop-m
decreases-loop-m l = length l.initial.status - l.m
