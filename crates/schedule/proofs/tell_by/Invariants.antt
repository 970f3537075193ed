-- The tiles so far.
use Rattle.plan.specs.Shaped.{plan_of}
use Rattle.schedule.proofs.Telling as telling
use Rattle.schedule.proofs.tell_by.Given as goal

abbrev pub invariant-loop-tile : goal.invariant-loop-tile
invariant-loop-tile l = telling.TableLoop (plan_of l.table.layout.sizes.route l.table.layout.nest) l.initial.rounds l.rounds l.lasts l.tile
