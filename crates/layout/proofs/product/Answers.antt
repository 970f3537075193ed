-- `layout::product` meets its contract: the product of the counts so far.
use native.Mathlib.Omega.{arith}
use mathlib.Core.Path.{◌≡◌, refl, sym, ap, ◌∙◌}
use Prim.Native.Nat.{◌<◌}
use lib.ListN.{length, take}
use Rattle.std.proofs.lemmas.List.{get_or-take, length-take-le}
use Rattle.base.specs.Tests as tests
use Rattle.layout.specs.Places.{nth}
use Rattle.layout.proofs.Dims.{product_next, product_fits}
use Rattle.layout.proofs.product.Goals as goal

pub loop-count-init : goal.loop-count-init
unfolding tests.product
loop-count-init c = refl

pub overflow_mul-product : goal.overflow_mul-product
overflow_mul-product c =
    let long : length (take c.args.left c.args.counts) ≡ c.args.left = length-take-le _ _ (omega (arith, c.requires.low)) in
    let low : c.loop-count.count-index < c.args.left = omega arith in
    record {
      fits = rw (get_or-take c.args.left c.args.counts c.loop-count.count-index 0 low, c.loop-count.invariant)
          (omega (arith, product_fits _ _ _ low c.requires));
    }

pub loop-count-preserved : goal.loop-count-preserved
loop-count-preserved c =
    let long : length (take c.args.left c.args.counts) ≡ c.args.left = length-take-le _ _ (omega (arith, c.requires.low)) in
    let low : c.loop-count.count-index < c.args.left = omega arith in
    rw (get_or-take c.args.left c.args.counts c.loop-count.count-index 0 low, c.loop-count.invariant) (sym (product_next _ _))
