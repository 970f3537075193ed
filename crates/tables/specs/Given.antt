-- For contracts below the calls: no reader needs it.
-- The plan of a table: that of its layout's nest on its route.
-- No sentence of document 01.
use Rattle.machine.specs.Plan.{Plan}
use Rattle.plan.specs.Shaped.{plan_of}
use Rattle.tables.specs.declared.Table.{Table}

abbrev pub plan_of_table : Table → Plan
plan_of_table t = plan_of t.layout.sizes.route t.layout.nest
