-- `layout::steps_of` meets its contract: those of the first w ways.
use native.Mathlib.Omega.{arith}
use Rattle.layout.proofs.Loops.{filled_none, filled_more}
use Rattle.layout.proofs.Steps.{ways_few, stepped_none, stepped_all}
use Rattle.layout.proofs.Layout.steps_of.Goals as goal

pub returns-then-side-eq0 : goal.returns-then-side-eq0
returns-then-side-eq0 c = stepped_none _ c.args.self.now.sized.accepted c.args.self.now.sizes.route _ c.if-side-eq0.true

pub offset_bounds-steps-w : goal.offset_bounds-steps-w
offset_bounds-steps-w c =
    omega (
      arith,
      c.loop-w.invariant.low,
      ways_few _ c.args.self.now.sized.accepted
          c.args.self.now.sizes.route,
    )

pub bounds-steps-w : goal.bounds-steps-w
bounds-steps-w c = omega (arith, c.loop-w-test.true, c.args.self.now.sized.ways, ways_few _ c.args.self.now.sized.accepted c.args.self.now.sizes.route)

pub loop-w-preserved : goal.loop-w-preserved
loop-w-preserved c =
    filled_more _ _ _ _ _ c.loop-w.invariant (omega (arith, c.loop-w-test.true, c.args.self.now.sized.ways))
    (omega (arith, ways_few _ c.args.self.now.sized.accepted c.args.self.now.sizes.route)) c.step_of.ensures.0

pub returns : goal.returns
returns c =
    stepped_all _ c.args.self.now.sized.accepted c.args.self.now.sizes.route _ _ _ c.if-side-eq0.false c.loop-w.invariant
    (omega (arith, c.loop-w-test.false, c.args.self.now.sized.ways))
