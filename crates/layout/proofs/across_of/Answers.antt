-- `layout::across_of` meets its contract: the array is filled from its start.
use native.Mathlib.Omega.{arith}
use Prim.Native.Nat.{ℕ, ◌+◌}
use mathlib.Core.Path.{refl, ap}
use Rattle.nest.specs.Nest.{tile_count}
use Rattle.layout.proofs.Loops.{filled_none, filled_more, filled_end}
use Rattle.layout.proofs.across_of.Goals as goal

pub loop-j-preserved : goal.loop-j-preserved
unfolding tile_count
loop-j-preserved c = filled_more _ _ _ _ _ c.loop-j.invariant c.loop-j-test.true c.requires.dimensions_most (ap (λ (a : ℕ). a + 1) c.tile_along.ensures)
