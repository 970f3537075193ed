-- The lines so far.
use Rattle.plan_text.proofs.Laws as L
use Rattle.plan.specs.Shaped.{plan_of}
use Rattle.plan_text.proofs.put_lines.Given as goal

abbrev pub invariant-loop-m : goal.invariant-loop-m
invariant-loop-m l = L.Lines (plan_of l.table.layout.sizes.route l.table.layout.nest) l.at l.initial.space l.space l.place l.m
