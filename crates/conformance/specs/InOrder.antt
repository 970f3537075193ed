-- Read this. Index order, the processor of a tile, and the hops of a message, of every accepted nest, with bounds or without.
-- Renders document 01, "Cells, tiles and boards", for the shapes of document 02, W-209: cell numbers are the box's, tiles those that hold a cell;
-- and W-204's and W-205's hops. Figures of two spread dimensions under a bound are computed in `SpreadExamples`.
use Rattle.std.specs.Prelude.{ℕ, ◌%◌, ◌≤◌, ◌<◌, ◌≡◌, ◌↔◌, List, [], ◌∷◌, ◌++◌, map}
use Rattle.base.specs.Tests.{keep, tabulate}
use Rattle.base.specs.Lists.{Rising}
use Rattle.machine.specs.Plan.{tiles_of}
use Rattle.nest.specs.declared.Nest.{Nest}
use Rattle.nest.specs.Nest.{processor_count, cells, processors, box_tiles}
use Rattle.nest.specs.Places.{place, cell_at, cell_place, tile_at, tile_place}
use Rattle.nest.specs.Recipes.{dimension, distance, close}
use Rattle.nest.specs.Reader.{nest_of}
use Rattle.nest.specs.Shape.{in_shape, existing, tiles}
use Rattle.plan.specs.declared.Route.TheVariants.{Direct}
use Rattle.plan.specs.Messages.{directions, ahead}
use Rattle.plan.specs.Hops.{hops}
use Rattle.plan.specs.Shaped.{plan_of}
use Rattle.conformance.specs.Exact.{Before, sequential, outer}
use Rattle.conformance.specs.ExactShape.{stands_at, shape_of, CarriesShape}
use Rattle.conformance.specs.Examples.{accepted, lines_to}
use Rattle.conformance.specs.ShapedExamples.{shaped_figures, diagonal}

pub record InOrder (x : Nest) : Type 0 where
  -- cells, the box's tiles, processors and directions are numbered in the lexicographic order of their places, the first dimension weighing most;
  -- the tiles that hold a cell are, by `ExactShape`'s tile-order
  pub cell_order : (c e : ℕ) → c < cells x → e < cells x → (c < e) ↔ Before x.dimensions (cell_place x c) (cell_place x e)
  pub box_tile_order : (t u : ℕ) → t < box_tiles x → u < box_tiles x → (t < u) ↔ Before x.dimensions (tile_place x t) (tile_place x u)
  pub processor_order : (p q : ℕ) → p < processors x → q < processors x
      → (p < q) ↔ Before x.spread (place (processor_count x) x.spread p) (place (processor_count x) x.spread q)
  pub direction_order : (v w : ℕ) → v ≤ directions x → w ≤ directions x → (v < w) ↔ Before x.spread (ahead x v) (ahead x w)
  -- the report's loops meet the box's cells 0, 1, 2, .., so those of the shape in rising order, and the box's tiles so
  pub cells_in_order : map (cell_at x) (sequential x) ≡ tabulate (λ c. c) (cells x)
  pub shape_in_order : map (cell_at x) (shape_of x (sequential x)) ≡ keep (in_shape x) (cells x)
  pub tiles_in_order : map (tile_at x) (outer x) ≡ tabulate (λ t. t) (box_tiles x)
  -- the processor of a tile: its place has, in each spread dimension, the remainder of the tile's by the count there
  pub processor_low : (t : ℕ) → t < tiles x → (plan_of Direct x).processor_of t < processors x
  pub processor_place : (t j : ℕ) → t < tiles x → j < x.spread
      → place (processor_count x) x.spread ((plan_of Direct x).processor_of t) j ≡ stands_at x t j % processor_count x j
  -- so two tiles are on one processor exactly where all these remainders are the same
  pub processor_same : (t u : ℕ) → t < tiles x → u < tiles x
      → ((plan_of Direct x).processor_of t ≡ (plan_of Direct x).processor_of u)
      ↔ ((j : ℕ) → j < x.spread → stands_at x t j % processor_count x j ≡ stands_at x u j % processor_count x j)
  -- a processor's tiles come in index order
  pub tiles_rising : (p : ℕ) → Rising (tiles_of (plan_of Direct x) p)
  -- each message goes by one hop at least on the indirect route, and by no more than there are spread dimensions
  pub hops_least : (m t v : ℕ) → CarriesShape x m t v → 1 ≤ hops x v
  pub hops_most : (v : ℕ) → hops x v ≤ x.spread

-- ---- two spread dimensions under a bound, computed

-- N 3,4,1 k 1,1,1 P 2,3,0, distance (1,0,0), i2 at least i1: rows of four, three and two cells
abbrev pub row_spread : List ℕ
row_spread = dimension 3 1 2 ++ dimension 4 1 3 ++ dimension 1 1 0 ++ diagonal ++ distance 1 0 0 ++ close

pub record SpreadExamples : Type 0 where
  pub figures : shaped_figures row_spread ≡ accepted 9 5 5 28
  -- the box's twelve tiles without (1,0), (2,0) and (2,1)
  pub tiles_are : existing (nest_of row_spread) ≡ 0 ∷ 1 ∷ 2 ∷ 3 ∷ 5 ∷ 6 ∷ 7 ∷ 10 ∷ 11 ∷ []
  -- tile (a,b) is on processor 3 (a mod 2) + b mod 3. Ruled out: 2 (b mod 3) + a mod 2, and the tile's own number taken for the box's
  pub processors_are : tabulate (plan_of Direct (nest_of row_spread)).processor_of 9 ≡ 0 ∷ 1 ∷ 2 ∷ 0 ∷ 4 ∷ 5 ∷ 3 ∷ 2 ∷ 0 ∷ []
  -- message, sending and taking tile, sending and taking processor, words
  pub lines : lines_to (plan_of Direct (nest_of row_spread)) 5
      ≡ (0 ∷ 1 ∷ 4 ∷ 1 ∷ 4 ∷ 1 ∷ []) ∷ (1 ∷ 2 ∷ 5 ∷ 2 ∷ 5 ∷ 1 ∷ []) ∷ (2 ∷ 3 ∷ 6 ∷ 0 ∷ 3 ∷ 1 ∷ []) ∷ (3 ∷ 5 ∷ 7 ∷ 5 ∷ 2 ∷ 1 ∷ [])
      ∷ (4 ∷ 6 ∷ 8 ∷ 3 ∷ 0 ∷ 1 ∷ []) ∷ []
