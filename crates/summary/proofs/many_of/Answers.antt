-- `summary::many_of` meets its contract: the mask of the dimensions before this one.
use mathlib.Core.Logic.{inl, inr}
use native.Mathlib.Omega.{arith}
use Rattle.summary.proofs.Ones as L
use Rattle.summary.proofs.many_of.Goals as goal
use Rattle.summary.proofs.many_of.Goals.{then-count-gt1, else-count-gt1}

pub loop-count-init : goal.loop-count-init
loop-count-init c = L.masking_none _ _

pub overflow_mul-mask : goal.overflow_mul-mask
overflow_mul-mask c = omega (arith, L.masking_few _ _ (omega (arith, c.requires.spread_low, c.requires.dimensions_most)) _ _ c.loop-count.invariant)

pub overflow_add-mask : goal.overflow_add-mask
overflow_add-mask c = omega (arith, L.masking_few _ _ (omega (arith, c.requires.spread_low, c.requires.dimensions_most)) _ _ c.loop-count.invariant)

pub loop-count-preserved : goal.loop-count-preserved
loop-count-preserved c =
    L.masking_more _ _ (omega (arith, c.requires.spread_low, c.requires.dimensions_most)) c.loop-count.mask _ _ c.loop-count.invariant c.loop-count-test.true
    (elim c.if-count-gt1.branch [ then-count-gt1 w ↦ inl (w.if-count-gt1.true, w.mask-is) | else-count-gt1 w ↦ inr (w.if-count-gt1.false, w.mask-is) ])

pub returns : goal.returns
returns c =
    L.masking_end _ _ (omega (arith, c.requires.spread_low, c.requires.dimensions_most)) _ _ c.loop-count.invariant
    c.loop-count-test.false
