-- `layout::bounds_of` meets its contract: corner and lengths are done before j; from j on the corner is still the tile's place.
use native.Mathlib.Omega.{arith}
use mathlib.Core.Path.{refl}
use Rattle.layout.proofs.Cells.{boxing_none, boxing_low, boxing_more, boxing_countable, boxing_end}
use Rattle.layout.proofs.Layout.bounds_of.Goals as goal

pub overflow_mul-first : goal.overflow_mul-first
overflow_mul-first c =
    record {
      fits = omega (
        arith,
        boxing_low _ c.args.self.now.sized.accepted _ _ _ _ c.loop-j.invariant c.loop-j-test.true,
        c.args.self.now.sized.accepted.length_most c.loop-j.j,
      );
    }

pub overflow_sub-self : goal.overflow_sub-self
overflow_sub-self c = omega (arith, boxing_low _ c.args.self.now.sized.accepted _ _ _ _ c.loop-j.invariant c.loop-j-test.true)

pub loop-j-preserved : goal.loop-j-preserved
loop-j-preserved c =
    boxing_more _ c.args.self.now.sized.accepted _ _ _ _ c.loop-j.invariant
    c.loop-j-test.true _ c.min.ensures

pub product-size-requires : goal.product-size-requires
product-size-requires c = boxing_countable _ c.args.self.now.sized.accepted _ _ _ _ c.loop-j.invariant (omega arith) c.requires

pub returns : goal.returns
returns c = (boxing_end _ c.args.self.now.sized.accepted _ _ _ _ c.loop-j.invariant (omega arith) c.requires _ c.product-size.ensures, refl)
