-- `layout::end_of` meets its contract.
use native.Mathlib.Omega.{arith}
use Rattle.layout.proofs.Steps.{ways_some, way_low, end_fits, sender_is, taker_is}
use Rattle.layout.proofs.Layout.end_of.Goals as goal

pub returns-then-side-eq0 : goal.returns-then-side-eq0
returns-then-side-eq0 c = sender_is _ c.args.self.now.sized.accepted c.args.self.now.sizes.route _ c.args.self.now.sized.ways c.args.slot _ c.if-side-eq0.true

pub overflow_add-result : goal.overflow_add-result
overflow_add-result c =
    omega (
      arith,
      c.step_of.ensures.1,
      end_fits _ c.args.self.now.sized.accepted c.args.self.now.sizes.route _ c.args.self.now.sized.ways c.args.slot
          c.requires,
    )

pub returns : goal.returns
returns c =
    taker_is _ c.args.self.now.sized.accepted c.args.self.now.sizes.route _ c.args.self.now.sized.ways c.args.slot _ c.requires
    c.if-side-eq0.false _ c.step_of.ensures.0
