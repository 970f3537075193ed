-- `listing::put_rows` meets its contract: the rows of the messages passed.
use Rattle.std.specs.Prelude.{◌-◌}
use Rattle.plan.specs.Shaped.{plan_of}
use Rattle.part_calls.proofs.Rows as rows
use Rattle.part_calls.proofs.listing.put_rows.Given as goal

abbrev pub invariant-loop-m : goal.invariant-loop-m
invariant-loop-m l = rows.Rowed (plan_of l.table.layout.sizes.route l.table.layout.nest) l.b l.initial.out l.out l.m

abbrev pub decreases-loop-m : goal.decreases-loop-m
decreases-loop-m l = l.messages - l.m
