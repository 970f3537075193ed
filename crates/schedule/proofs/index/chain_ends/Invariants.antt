-- From the last message on.
use Rattle.std.specs.Prelude.{◌≤◌}
use Rattle.plan.specs.Shaped.{plan_of}
use Rattle.machine.specs.Plan.{count}
use Rattle.tables.specs.boxes.Table.{end_of}
use Rattle.schedule.specs.Index.{ChainedFrom}
use Rattle.schedule.proofs.index.chain_ends.Given as goal

abbrev pub invariant-loop-m : goal.invariant-loop-m
invariant-loop-m l = ChainedFrom (end_of l.side (plan_of l.table.layout.sizes.route l.table.layout.nest)) (count (plan_of l.table.layout.sizes.route l.table.layout.nest)) l.m l.chain × (l.m ≤ count (plan_of l.table.layout.sizes.route l.table.layout.nest))
