-- `parcels::shaped::farthest` meets its contract: the first i components go no farther.
use native.Mathlib.Omega.{arith}
use mathlib.Core.Path.{◌≡◌}
use Prim.Native.Nat.{◌*◌, ◌<◌}
use lib.ListN.{length, take}
use Rattle.std.proofs.lemmas.List.{get_or-take, length-take-le}
use Rattle.layout.proofs.Cells.{zeros}
use Rattle.parcels.proofs.shaped.Rows as R
use Rattle.parcels.proofs.shaped.farthest.Goals as goal

pub loop-i-init : goal.loop-i-init
loop-i-init c = R.most_none _ _ (omega arith) zeros

pub loop-i-preserved : goal.loop-i-preserved
loop-i-preserved c =
    let long : length (take (4 * c.args.nest.distances) c.args.nest.components) ≡ 4 * c.args.nest.distances =
    length-take-le _ _ (omega (arith, c.requires.distances_most)) in
    let low : c.loop-i.i < 4 * c.args.nest.distances = omega arith in
    R.most_more _ _ _ _ c.loop-i.invariant (R.component_small _ c.requires _)
    (rw (← get_or-take (4 * c.args.nest.distances) c.args.nest.components c.loop-i.i 0 low) c.max.ensures)

pub returns : goal.returns
returns c =
    let long : length (take (4 * c.args.nest.distances) c.args.nest.components) ≡ 4 * c.args.nest.distances =
    length-take-le _ _ (omega (arith, c.requires.distances_most)) in
    R.most_end _ c.requires _ _ (omega arith) c.loop-i.invariant
