-- For contracts below the calls: no reader needs it.
-- Rows of the box's tiles along the last dimension: one processor, and where all that is near a tile lies in the shape.
-- No sentence of document 02.
use Rattle.std.specs.Prelude.{ℕ, ◌+◌, ◌*◌, ◌≤◌, ◌<◌, ◌≡◌, true, List, get_or}
use Rattle.base.specs.Tests.{every}
use Rattle.nest.specs.declared.Nest.{Nest}
use Rattle.nest.specs.declared.Interval.{Interval}
use Rattle.nest.specs.Nest.{tile_length}
use Rattle.nest.specs.Shape.{meets, tiles}
use Rattle.nest.specs.Spans.{last}
use Rattle.plan.specs.Geometry.{processor_of}
use Rattle.plan.specs.Shaped.{box_tile}
use Rattle.parcels.specs.declared.Window.{Window}
use Rattle.tables.specs.shaped_table.Table.{Like}

-- from tile u of the box on, below `end`, tiles have processor p
pub record OneProcessor (x : Nest) (u p end : ℕ) : Type 0 where
  pub each : (v : ℕ) → u ≤ v → v < end → processor_of x v ≡ p

-- in each dimension the components of the cells of the tile at a place, and of those at most so far after them
pub record Area (x : Nest) (at most : List ℕ) (w : Window) : Type 0 where
  pub low : (j : ℕ) → j < x.dimensions → get_or w.low j 0 ≡ get_or at j 0 * tile_length x j
  pub high : (j : ℕ) → j < x.dimensions → get_or w.high j 0 + 1 ≡ get_or at j 0 * tile_length x j + tile_length x j + get_or most j 0

-- its numbers are small
pub record Few (x : Nest) (w : Window) : Type 0 where
  pub low : (j : ℕ) → j < x.dimensions → get_or w.low j 0 ≤ 2097152
  pub high : (j : ℕ) → j < x.dimensions → get_or w.high j 0 ≤ 2097152

-- place i lies in the area, in the dimensions before the last
abbrev pub Among : Nest → Window → (ℕ → ℕ) → Type 0
Among x w i = (j : ℕ) → j < last x → (get_or w.low j 0 ≤ i j) × (i j ≤ get_or w.high j 0)

-- of an interval of the last dimension, r is left by bound k all over the area
pub record Cut (x : Nest) (w : Window) (k : ℕ) (left r : Interval) : Type 0 where
  pub part : (a : ℕ) → r.from ≤ a → a < r.to → (left.from ≤ a) × (a < left.to)
  pub few : (r.from ≤ 8388608) × (r.to ≤ 1024)
  pub is : (i : ℕ → ℕ) → Among x w i → r.from ≤ i (last x) → i (last x) < r.to → meets x i k ≡ true

-- where all of the area meets the first n bounds
pub record Inner (x : Nest) (w : Window) (n : ℕ) (r : Interval) : Type 0 where
  pub few : (r.from ≤ 8388608) × (r.to ≤ 1024)
  pub is : (i : ℕ → ℕ) → Among x w i → r.from ≤ i (last x) → i (last x) < r.to → every (meets x i) n ≡ true

-- places of a dimension, of tiles so long each: from the first cell of the one before to so far after its own last cell all lies in the
-- interval, and the one after it is of full length
pub record PlacesIn (inner : Interval) (tiling length most : ℕ) (r : Interval) : Type 0 where
  pub few : (r.from ≤ 8400000) × (r.to ≤ 1024)
  pub each : (a : ℕ) → r.from ≤ a → a < r.to
      → (1 ≤ a) × ((inner.from + tiling ≤ a * tiling) × ((a * tiling + tiling + most ≤ inner.to) × ((a + 2) * tiling ≤ length)))

-- a tile from one number of the box on, below another, is like the tile that is so far before it in the box
pub record Lined (x : Nest) (far from to : ℕ) : Type 0 where
  pub few : far ≤ 65536
  pub each : (t p : ℕ) → p < t → t < tiles x → from ≤ box_tile x t → box_tile x t < to → box_tile x p + far ≡ box_tile x t → Like x t p
