-- `part_calls::tile::backs_in` meets its contract: those of the first e distances.
use native.Mathlib.Omega.{arith}
use Rattle.part_calls.proofs.tile.InPart.{filling_none, filling_more, filling_end}
use Rattle.part_calls.proofs.tile.backs_in.Goals as goal

pub loop-e-init : goal.loop-e-init
loop-e-init c = filling_none _ _ _ _ _ _ _ _ _ (omega arith)

pub offset_bounds-firsts-e : goal.offset_bounds-firsts-e
offset_bounds-firsts-e c = omega (arith, c.loop-e-test.true, c.requires.1.0)

pub bounds-firsts-e : goal.bounds-firsts-e
bounds-firsts-e c = omega (arith, c.loop-e-test.true, c.requires.1.0)

pub offset_bounds-ends-e : goal.offset_bounds-ends-e
offset_bounds-ends-e c = omega (arith, c.loop-e-test.true, c.requires.1.0)

pub bounds-ends-e : goal.bounds-ends-e
bounds-ends-e c = omega (arith, c.loop-e-test.true, c.requires.1.0)

pub offset_bounds-back-e : goal.offset_bounds-back-e
offset_bounds-back-e c = omega (arith, c.loop-e-test.true, c.requires.1.0)

pub bounds-back-e : goal.bounds-back-e
bounds-back-e c = omega (arith, c.loop-e-test.true, c.requires.1.0)

pub back_in-requires : goal.back_in-requires
back_in-requires c = (c.requires.0, c.requires.1.1 _ c.loop-e-test.true)

pub offset_bounds-backs-e : goal.offset_bounds-backs-e
offset_bounds-backs-e c = omega (arith, c.loop-e-test.true, c.requires.1.0)

pub bounds-backs-e : goal.bounds-backs-e
bounds-backs-e c = omega (arith, c.loop-e-test.true, c.requires.1.0)

pub overflow_step-e : goal.overflow_step-e
overflow_step-e c = omega (arith, c.loop-e-test.true, c.requires.1.0)

pub loop-e-smaller : goal.loop-e-smaller
loop-e-smaller c = omega (arith, c.loop-e-test.true)

pub loop-e-preserved : goal.loop-e-preserved
loop-e-preserved c =
    filling_more _ _ _ _ _ _ _ _ _ _ c.loop-e.invariant _ c.loop-e-test.true
    c.requires.1.0 c.back_in.ensures

pub returns : goal.returns
returns c = filling_end _ _ _ _ _ _ _ _ _ _ c.loop-e.invariant c.loop-e-test.false
