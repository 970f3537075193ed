-- For contracts below the calls: no reader needs it.
-- What the code that marks cells and counts messages goes by: rows of the box, rows that lie in the same tiles, the processors at a slot's ends.
-- No sentence of document 01.
use Rattle.std.specs.Prelude.{ℕ, ◌+◌, ◌*◌, ◌/◌, ◌%◌, ◌≤◌, ◌<◌, ◌≡◌, ◌⊎◌, List, length, get_or, eqb}
use Rattle.base.specs.Tests.{one, pick}
use Rattle.nest.specs.declared.Nest.{Nest}
use Rattle.nest.specs.Nest.{length_of, tile_length, processor_count}
use Rattle.nest.specs.Places.{rank, cell_place, tile_place}
use Rattle.nest.specs.Shape.{in_shape}
use Rattle.nest.specs.Spans.{last}
use Rattle.plan.specs.declared.Route.{Route}
use Rattle.plan.specs.Geometry.{processor_of}
use Rattle.plan.specs.Messages.{ways}
use Rattle.plan.specs.Shaped.{box_tile}
use Rattle.layout.specs.Sizes.{along}

-- how many cells a row has
abbrev pub row_cells : Nest → ℕ
row_cells x = length_of x (last x)

-- of the cells from one up to another those in the shape are marked, all others as before
pub record Shown (x : Nest) (low high : ℕ) (before after : List ℕ) : Type 0 where
  pub long : length after ≡ length before
  pub each : (c : ℕ) → low ≤ c → c < high → get_or after c 0 ≡ pick (in_shape x c) 1 (get_or before c 0)
  pub others : (c : ℕ) → (c < low) ⊎ (high ≤ c) → get_or after c 0 ≡ get_or before c 0

-- the n rows from row q on lie in the same tiles in every spread dimension
pub record Alike (x : Nest) (q n : ℕ) : Type 0 where
  pub full : 1 ≤ n
  pub same : (y j : ℕ) → y < n → j < x.spread
      → cell_place x ((q + y) * row_cells x) j / tile_length x j ≡ cell_place x (q * row_cells x) j / tile_length x j

-- the processor of the tile by way w from tile t of the box, as if there were one
unfoldable pub ahead_of : Route → Nest → ℕ → ℕ → ℕ
ahead_of r x t w = rank (processor_count x) (λ j. (tile_place x t j + along r x w j) % processor_count x j) x.spread

-- 1 where processor b has tile t, and 2 where it has that tile
unfoldable pub side_of : Route → Nest → ℕ → ℕ → ℕ → ℕ
side_of r x b t w = one (eqb (processor_of x t) b) + 2 * one (eqb (ahead_of r x t w) b)

-- so for each of the first n slots of the table
pub record Sided (r : Route) (x : Nest) (b n : ℕ) (sides : List ℕ) : Type 0 where
  pub each : (s : ℕ) → s < n → get_or sides s 0 ≡ side_of r x b (box_tile x (s / ways r x)) (s % ways r x)
