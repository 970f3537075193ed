-- `plan_text::put_lines` meets its contract.
use Rattle.plan_text.proofs.Laws as L
use native.Mathlib.Omega.{arith}
use Rattle.plan.specs.Shaped.{plan_of}
use Rattle.plan_text.proofs.put_lines.Goals as goal

pub loop-m-init : goal.loop-m-init
loop-m-init c = L.lines_start (plan_of c.args.table.now.layout.sizes.route c.args.table.now.layout.nest) c.args.at c.args.space.now

pub put_line-place-requires : goal.put_line-place-requires
put_line-place-requires c = omega (arith, c.requires.messages_bound, c.loop-m.invariant.low, c.loop-m-test.true)

pub loop-m-preserved : goal.loop-m-preserved
loop-m-preserved c =
    L.lines_next (plan_of c.args.table.now.layout.sizes.route c.args.table.now.layout.nest)
    c.args.at c.args.space.now c.loop-m.space c.loop-m.place c.loop-m.m c.loop-m.invariant c.line_of.result
    c.line_of.ensures _ _ c.put_line-place.ensures.space_after c.put_line-place.ensures.upper_bound
    c.put_line-place.auto.space

pub shape_of-space : goal.shape_of-space
shape_of-space c = c.loop-m.invariant.long

pub returns : goal.returns
returns c =
    let d = L.lines_done (plan_of c.args.table.now.layout.sizes.route c.args.table.now.layout.nest) c.args.at c.args.space.now c.loop-m.space
    c.loop-m.place c.loop-m.m c.loop-m.invariant c.args.messages (omega (arith, c.loop-m.auto.m-end)) c.loop-m-test.false in
    record { space_after = d.0; upper_bound = d.1 }
