-- `parcels::shaped::near` meets its contract: the box in the first j dimensions.
use native.Mathlib.Omega.{arith}
use Rattle.layout.proofs.Loops.{filled_none, filled_more}
use Rattle.parcels.proofs.shaped.Rows as R
use Rattle.parcels.proofs.shaped.near.Goals as goal

pub loop-j-init : goal.loop-j-init
loop-j-init c = (filled_none _ _ _ (omega arith), filled_none _ _ _ (omega arith))

pub loop-j-preserved : goal.loop-j-preserved
loop-j-preserved c =
    let loop = c.loop-j in
    let loop-test = c.loop-j-test in
    let less = c.saturating_sub in
    let less2 = c.saturating_sub-before in
    let least = c.min-over in (
      filled_more _ _ _ _ _ loop.invariant.0 loop-test.true c.requires.0.dimensions_most (R.over_is _ _ _ _ _ _ _ less.ensures less2.ensures
          least.ensures).0,
      filled_more _ _ _ _ _ loop.invariant.1 loop-test.true c.requires.0.dimensions_most
          (R.over_is _ _ _ _ _ _ _ less.ensures less2.ensures least.ensures).1,
    )

pub product-rows-requires : goal.product-rows-requires
product-rows-requires c =
    let loop = c.loop-j in
    R.near_countable _ c.requires.0 _ c.requires.1.0 _ c.requires.1.1 _ _ _ loop.invariant.0 loop.invariant.1 c.loop-j-test.false

pub returns : goal.returns
returns c =
    let loop = c.loop-j in
    R.near_is _ c.requires.0 _ c.requires.1.0 _ c.requires.1.1 _ _ _ loop.invariant.0 loop.invariant.1 c.loop-j-test.false _
    c.product-rows.ensures
