-- `tables::boxes::fill` meets its contract: the lengths of the first tiles' parcels are in the table.
use native.Mathlib.Omega.{arith}
use native.Mathlib.Nat.{zero-mul, mul-le-mul_right}
use Rattle.tables.proofs.boxes.Scans as L
use Rattle.tables.proofs.boxes.fill.Goals as goal

pub loop-tile-init : goal.loop-tile-init
loop-tile-init c = rw (zero-mul c.args.layout.now.sizes.ways) (L.fill_start c.args.layout.now.sizes.route _ _ c.requires.0 c.requires.1)

pub fill_from-tile-requires : goal.fill_from-tile-requires
fill_from-tile-requires c = (L.under_tiles _ _ c.args.layout.now.sized _ c.loop-tile-test.true, c.loop-tile.invariant)

pub loop-tile-smaller : goal.loop-tile-smaller
loop-tile-smaller c = omega (arith, c.loop-tile-test.true, c.fill_from-tile.ensures.0)

pub loop-tile-preserved : goal.loop-tile-preserved
loop-tile-preserved c = c.fill_from-tile.ensures.1

pub returns : goal.returns
returns c =
    L.filled c.args.layout.now.sizes.route _ _ _ c.loop-tile.invariant
    (L.over _ _ c.args.layout.now.sized _ (mul-le-mul_right c.args.layout.now.sizes.ways c.loop-tile-test.false))
