-- `tables::shaped_table::tile_count` meets its contract: how many of the first t tiles.
use Prim.Native.Nat.{◌-◌, ◌≤◌}
use mathlib.Core.Path.{◌≡◌}
use lib.ListN.{length}
use Rattle.base.specs.Tests.{those}
use Rattle.plan.specs.Geometry.{processor_of}
use Rattle.plan.specs.Shaped.{box_tile}
use Rattle.tables.proofs.shaped_table.tile_count.Given as goal

abbrev pub invariant-loop-t : goal.invariant-loop-t
invariant-loop-t l = (l.t ≤ l.n) × (l.count ≡ length (those (λ i. processor_of l.nest (box_tile l.nest i)) l.processor l.t))

abbrev pub decreases-loop-t : goal.decreases-loop-t
decreases-loop-t l = l.n - l.t
