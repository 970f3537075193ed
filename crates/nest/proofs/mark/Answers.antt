-- `nest::mark` meets its contract: the places that the loop has passed are marked.
use native.Mathlib.Omega.{arith}
use Rattle.nest.proofs.Cuts as C
use Rattle.nest.proofs.mark.Goals as goal

pub loop-u-init : goal.loop-u-init
loop-u-init c = C.marking_start _ _ _ c.requires.0

pub bounds-marks-u : goal.bounds-marks-u
bounds-marks-u c = omega (arith, c.loop-u.invariant.long, c.loop-u-test.true, c.requires.1)

pub overflow_step-u : goal.overflow_step-u
overflow_step-u c = omega (arith, c.loop-u-test.true, c.requires.1)

pub loop-u-smaller : goal.loop-u-smaller
loop-u-smaller c = omega (arith, c.loop-u-test.true)

pub loop-u-preserved : goal.loop-u-preserved
loop-u-preserved c = C.marking_next _ _ _ _ _ c.loop-u.invariant c.loop-u-test.true c.requires.1

pub shape_of-marks : goal.shape_of-marks
shape_of-marks c = c.loop-u.invariant.long

pub returns : goal.returns
returns c = C.marking_end _ _ _ _ _ c.loop-u.invariant c.loop-u-test.false
