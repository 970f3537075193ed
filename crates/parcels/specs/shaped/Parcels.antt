-- For contracts below the calls: no reader needs it.
-- The cells of a box that some distance puts into a window, both in the shape; which rows of the box hold one, and how they are found row by row.
-- No sentence of document 02.
use Rattle.std.specs.Prelude.{ℕ, ◌+◌, ◌*◌, ◌≤◌, ◌<◌, ◌≡◌, List, map, get_or}
use Rattle.base.specs.Tests.{keep}
use Rattle.nest.specs.declared.Nest.{Nest}
use Rattle.nest.specs.Nest.{length_of, component}
use Rattle.nest.specs.Spans.{last}
use Rattle.plan.specs.Shaped.{shaped_parcel}
use Rattle.layout.specs.Places.{nth, Has}
use Rattle.parcels.specs.declared.Sending.{Sending}
use Rattle.parcels.specs.Windows.{window_of}
use Rattle.parcels.specs.Sendings.{BoxOfRows, place_in, cell_in}
use Rattle.parcels.specs.shaped.Runs.{comes_shaped, RunsAre}

-- of the first n cells of the box, those that some distance puts into the window, both in the shape
unfoldable pub shaped_found : Nest → Sending → ℕ → List ℕ
shaped_found x z n = map (cell_in x z) (keep (λ q. comes_shaped x (window_of z.window) (place_in x z q)) n)

-- no distance goes farther than this in dimension j
pub record Farthest (x : Nest) (most : List ℕ) : Type 0 where
  pub each : (e j : ℕ) → e < x.distances → j < x.dimensions → component x e j ≤ get_or most j 0
  pub small : (j : ℕ) → get_or most j 0 ≤ 1024

-- a smaller box with the same ends and window: it has every place of the box that a distance puts at or after the window's start
pub record Near (x : Nest) (z y : Sending) : Type 0 where
  pub shape : BoxOfRows x y
  pub window : y.window ≡ z.window
  pub from : (j : ℕ) → j < x.dimensions → get_or z.block.corner j 0 ≤ get_or y.block.corner j 0
  pub to : (j : ℕ) → j < x.dimensions
      → get_or y.block.corner j 0 + get_or y.block.lengths j 0 ≡ get_or z.block.corner j 0 + get_or z.block.lengths j 0
  pub has : (e j a : ℕ) → e < x.distances → j < x.dimensions → get_or z.block.corner j 0 ≤ a
      → a < get_or z.block.corner j 0 + get_or z.block.lengths j 0 → get_or z.window.low j 0 ≤ a + component x e j → get_or y.block.corner j 0 ≤ a

-- rows that hold the cells of tile u of the box and direction v
pub record Rows (x : Nest) (u v : ℕ) (z : Sending) : Type 0 where
  pub shape : BoxOfRows x z
  pub ends : get_or z.window.high (last x) 0 ≤ length_of x (last x)
  pub cells : shaped_parcel x u v ≡ shaped_found x z (z.rows * z.width)

-- row r: its place, and the runs of its cells that are found
pub record RowRuns (x : Nest) (z : Sending) (r : ℕ) (at : List ℕ) (n : ℕ) (starts ends : List ℕ) : Type 0 where
  pub place : Has at (place_in x z (r * z.width)) x.dimensions
  pub runs : RunsAre x (nth at) (comes_shaped x (window_of z.window)) n starts ends
