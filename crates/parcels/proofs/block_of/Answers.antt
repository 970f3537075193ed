-- `parcels::block_of` meets its contract: the first j dimensions.
use native.Mathlib.Omega.{arith}
use Rattle.layout.proofs.Loops.{filled_none, filled_more, filled_end}
use Rattle.layout.proofs.Cells.{count_most}
use Rattle.parcels.proofs.Sendings.{tile_few, begin_end}
use Rattle.parcels.proofs.block_of.Goals as goal

pub loop-j-init : goal.loop-j-init
loop-j-init c = (filled_none _ _ _ (omega arith), filled_none _ _ _ (omega arith))

pub overflow_mul-first : goal.overflow_mul-first
overflow_mul-first c =
    omega (
      arith,
      tile_few _ c.requires.0 c.saturating_sub.result c.loop-j.j
          (omega (
            arith,
            c.saturating_sub.ensures,
            c.requires.1 c.loop-j.j c.loop-j-test.true,
            count_most _ c.requires.0
                c.loop-j.j c.loop-j-test.true,
          )),
    )

pub end_of-requires : goal.end_of-requires
end_of-requires c = (
  omega (
    arith,
    c.requires.1 c.loop-j.j c.loop-j-test.true,
    count_most _ c.requires.0 c.loop-j.j
        c.loop-j-test.true,
  ),
  c.requires.0.tile_most _,
)

pub overflow_sub-lengths : goal.overflow_sub-lengths
overflow_sub-lengths c =
    omega (
      arith,
      c.end_of.ensures,
      begin_end _ c.requires.0 _ c.saturating_sub.result c.loop-j.j c.loop-j-test.true
          (c.requires.1 c.loop-j.j c.loop-j-test.true) (omega (arith, c.saturating_sub.ensures)),
    )

pub loop-j-preserved : goal.loop-j-preserved
loop-j-preserved c = (
  filled_more _ _ _ _ _ c.loop-j.invariant.0 c.loop-j-test.true c.requires.0.dimensions_most (rw (c.saturating_sub.ensures, c.one.ensures)),
  filled_more _ _ _ _ _ c.loop-j.invariant.1 c.loop-j-test.true c.requires.0.dimensions_most
      (rw (c.end_of.ensures, c.saturating_sub.ensures, c.one.ensures)),
)

pub returns : goal.returns
returns c =
    record {
      corner = filled_end _ _ _ _ c.loop-j.invariant.0 c.loop-j-test.false;
      lengths = filled_end _ _ _ _ c.loop-j.invariant.1
          c.loop-j-test.false;
    }
