-- `nest::product_of` meets its contract: the product of at most four numbers below 65,536 fits.
use Prim.Native.Nat.{◌*◌, ◌<◌}
use native.Mathlib.Omega.{arith}
use lib.ListN.{get_or}
use Rattle.nest.proofs.Laws as L
use Rattle.nest.proofs.product_of.Goals as goal

pub loop-j-init : goal.loop-j-init
loop-j-init c = (omega arith, L.product_start _)

pub overflow_mul-total : goal.overflow_mul-total
overflow_mul-total c =
    let h : (c.loop-j.total * get_or c.args.values c.loop-j.j 0) < 18446744073709551616 = L.product_next _ _ _ _
    c.requires.0 c.loop-j-test.true (λ i k. c.requires.1 i) c.loop-j.invariant.1 in omega arith

pub loop-j-preserved : goal.loop-j-preserved
loop-j-preserved c = (omega arith, L.product_step _ _ _ c.loop-j.invariant.1)

pub returns : goal.returns
returns c = L.product_end _ _ c.loop-j.j _ c.loop-j.invariant.0 c.loop-j-test.false c.loop-j.invariant.1
