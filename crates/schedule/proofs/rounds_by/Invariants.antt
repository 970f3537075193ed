-- The rounds so far; as many as the driver tells when no processor has tiles left.
use Rattle.std.specs.Prelude.{◌-◌}
use Rattle.machine.specs.Machine.{state_of}
use Rattle.plan.specs.Shaped.{plan_of}
use Rattle.rounds.specs.Rounds.{rounds}
use Rattle.schedule.proofs.Laws as laws
use Rattle.schedule.proofs.rounds_by.Given as goal

abbrev pub invariant-loop-memories : goal.invariant-loop-memories
invariant-loop-memories l = laws.RoundsLoop (plan_of l.table.layout.sizes.route l.table.layout.nest) l.source (state_of l.initial.memories l.initial.buffer l.initial.progress l.initial.status) (state_of l.memories l.buffer l.progress l.status) l.done

abbrev pub decreases-loop-memories : goal.decreases-loop-memories
decreases-loop-memories l =
    rounds
    (plan_of l.table.layout.sizes.route l.table.layout.nest) - l.done
