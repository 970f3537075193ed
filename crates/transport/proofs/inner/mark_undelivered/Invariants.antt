-- `inner::mark_undelivered` meets its contract: the messages due that were looked at.
use Rattle.plan.specs.Shaped.{plan_of}
use Rattle.transport.proofs.Awaiting as waiting
use Rattle.transport.proofs.inner.mark_undelivered.Given as goal

abbrev pub invariant-loop-j : goal.invariant-loop-j
invariant-loop-j l = waiting.Marking (plan_of l.table.layout.sizes.route l.table.layout.nest) l.status l.tile l.marks l.n l.j
