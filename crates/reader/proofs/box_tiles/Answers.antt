-- `reader::box_tiles` meets its contract: the product of at most four numbers below 65,536 fits.
use Prim.Native.Nat.{ℕ, ◌*◌}
use mathlib.Core.Path.{ap, ◌∙◌}
use native.Mathlib.Omega.{arith}
use Rattle.nest.specs.Nest.{tile_count, box_tiles}
use Rattle.nest.proofs.Laws as L
use Rattle.reader.proofs.box_tiles.Goals as goal

pub loop-j-init : goal.loop-j-init
loop-j-init c = (omega arith, L.product_start _)

pub tiles_along-total-requires : goal.tiles_along-total-requires
tiles_along-total-requires c =
    let low = c.loop-j-test.true in (
      (c.requires.0.long c.loop-j.j low, c.requires.0.length_most c.loop-j.j low),
      (c.requires.1 c.loop-j.j low, c.requires.0.tile_wide c.loop-j.j),
    )

pub overflow_mul-total : goal.overflow_mul-total
overflow_mul-total c =
    record {
      fits = rw c.tiles_along-total.ensures.0 (L.tile_next c.args.nest c.loop-j.j c.loop-j.total c.requires.0.dimensions_most
          c.loop-j-test.true c.requires.0.length_wide c.requires.0.long c.loop-j.invariant.1);
    }

pub loop-j-preserved : goal.loop-j-preserved
unfolding tile_count
loop-j-preserved c = (omega arith, ap (λ (a : ℕ). c.loop-j.total * a) c.tiles_along-total.ensures.0 ∙ L.product_step _ _ _ c.loop-j.invariant.1)

pub returns : goal.returns
unfolding box_tiles
returns c = L.product_end _ _ c.loop-j.j _ c.loop-j.invariant.0 c.loop-j-test.false c.loop-j.invariant.1
