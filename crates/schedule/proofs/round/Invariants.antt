-- The processors' tiles so far; then the mail.
use Rattle.machine.specs.Machine.{state_of}
use Rattle.plan.specs.Shaped.{plan_of}
use Rattle.schedule.proofs.Laws as laws
use Rattle.schedule.proofs.round.Given as goal

abbrev pub invariant-loop-b : goal.invariant-loop-b
invariant-loop-b l = laws.TilesLoop (plan_of l.table.layout.sizes.route l.table.layout.nest) l.source (state_of l.initial.memories l.initial.buffer l.initial.progress l.initial.status) (state_of l.memories l.buffer l.progress l.status) l.table.layout.sizes.processors l.b
