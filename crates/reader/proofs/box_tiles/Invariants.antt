-- `reader::box_tiles` meets its contract: the product of at most four numbers below 65,536 fits.
use Prim.Native.Nat.{◌-◌, ◌≤◌}
use mathlib.Core.Path.{◌≡◌}
use Rattle.base.specs.Tests.{product}
use Rattle.nest.specs.Nest.{tile_count}
use Rattle.reader.proofs.box_tiles.Given as goal

abbrev pub invariant-loop-j : goal.invariant-loop-j
invariant-loop-j l = (l.j ≤ l.n) × (l.total ≡ product (tile_count l.nest) l.j)

abbrev pub decreases-loop-j : goal.decreases-loop-j
decreases-loop-j l = l.n - l.j
