-- `parcels::window_of` meets its contract: the first j spread dimensions.
use native.Mathlib.Omega.{arith}
use Prim.Native.Nat.{◌+◌}
use mathlib.Core.Path.{refl}
use lib.ListN.{get_or}
use lib.Dec.{leb}
use Rattle.layout.proofs.Loops.{changed_none, changed_more}
use Rattle.parcels.proofs.Sendings.{one_few, windowed}
use Rattle.parcels.proofs.window_of.Goals as goal

pub loop-j-init : goal.loop-j-init
loop-j-init c = (changed_none _ _ _ (omega arith), changed_none _ _ _ (omega arith))

pub overflow_add-to-in-loop-j : goal.overflow_add-to-in-loop-j
overflow_add-to-in-loop-j c =
    omega (
      arith,
      c.requires.1.1 c.loop-j.j c.loop-j-test.true,
      c.one.ensures,
      one_few (leb c.args.later c.loop-j.j),
    )

pub end_of-requires : goal.end_of-requires
end_of-requires c = (
  omega (
    arith,
    c.requires.1.1 c.loop-j.j c.loop-j-test.true,
    c.one.ensures,
    one_few (leb c.args.later c.loop-j.j),
  ),
  c.requires.0.tile_most _,
)

pub loop-j-preserved : goal.loop-j-preserved
loop-j-preserved c = (
  changed_more _ _ _ _ _ _ c.loop-j.invariant.0 c.loop-j-test.true
      (omega (arith, c.requires.0.spread_low, c.requires.0.dimensions_most)) refl,
  changed_more _ _ _ _ _ _ c.loop-j.invariant.1
      c.loop-j-test.true (omega (arith, c.requires.0.spread_low, c.requires.0.dimensions_most))
      (rw (c.end_of.ensures, c.one.ensures)),
)

pub returns : goal.returns
returns c =
    windowed _ c.requires.0 _ c.requires.1.0 (λ j. get_or c.args.at j 0 + get_or
    c.args.ahead j 0) _ _ _ c.loop-j.invariant.0 c.loop-j.invariant.1 c.loop-j-test.false
