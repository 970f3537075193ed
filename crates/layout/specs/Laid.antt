-- For contracts below the calls: no reader needs it.
-- The plan of a layout: that of its nest on its route.
-- No sentence of document 01.
use Rattle.machine.specs.Plan.{Plan}
use Rattle.plan.specs.Shaped.{plan_of}
use Rattle.layout.specs.declared.Layout.{Layout}

abbrev pub plan_of_layout : Layout → Plan
plan_of_layout l = plan_of l.sizes.route l.nest
