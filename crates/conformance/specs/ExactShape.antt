-- Read this.
-- Demand 2 for a nest with bounds, on the direct route: its tiles, which cells a message holds, which messages there are, and the sweep's words.
-- Renders document 02, W-209. Tile t has the number `box_tile x t` in the box; the column of t plus v are the tiles with its spread components.
use Rattle.std.specs.Prelude.{ℕ, ◌+◌, ◌≤◌, ◌<◌, ◌≡◌, ◌⊎◌, ◌≢◌, ◌↔◌, true, false, List, [], ◌∷◌, length, get_or}
use Rattle.base.specs.Tests.{pick}
use Rattle.base.specs.Lists.{In}
use Rattle.machine.specs.Plan.{count, sender_of, taker_of, held_by, dues_of}
use Rattle.machine.specs.Machine.{sweep}
use Rattle.nest.specs.declared.Nest.{Nest}
use Rattle.nest.specs.Nest.{component, tile_count, cells, box_tiles}
use Rattle.nest.specs.Places.{cell_at, cell_place, tile_at, tile_place, box_tile_of}
use Rattle.nest.specs.Shape.{in_shape, tiles}
use Rattle.plan.specs.declared.Route.TheVariants.{Direct}
use Rattle.plan.specs.Geometry.{processor_of}
use Rattle.plan.specs.Messages.{directions, ahead}
use Rattle.plan.specs.Shaped.{box_tile, tile_of, shaped_reads, shaped_value, plan_of}
use Rattle.conformance.specs.Exact.{Before, sequential, run_nest}

-- the place of tile t, and of t plus v
abbrev pub stands_at : Nest → ℕ → ℕ → ℕ
stands_at x t = tile_place x (box_tile x t)

abbrev pub stands_ahead : Nest → ℕ → ℕ → ℕ → ℕ
stands_ahead x t v j = stands_at x t j + ahead x v j

-- tile w is in the column of t plus v, and stands at or after t plus v in index order
pub record Follows (x : Nest) (t v w : ℕ) : Type 0 where
  pub column : (j : ℕ) → j < x.spread → stands_at x w j ≡ stands_ahead x t v j
  pub from : tile_at x (stands_ahead x t v) ≤ box_tile x w

-- cell c of the shape, in tile t, is read by a cell of the shape in the column of t plus v
pub record ReadAhead (x : Nest) (t v c : ℕ) : Type 0 where
  pub cell : c < cells x
  pub inside : in_shape x c ≡ true
  pub own : tile_of x c ≡ t
  pub reader : ℕ
  pub reader_cell : reader < cells x
  pub reader_inside : in_shape x reader ≡ true
  pub reads : In c (shaped_reads x reader)
  pub column : (j : ℕ) → j < x.spread → stands_at x (tile_of x reader) j ≡ stands_ahead x t v j

-- of these indices those in the shape
unfoldable pub shape_of : Nest → List (ℕ → ℕ) → List (ℕ → ℕ)
shape_of x [] = []
shape_of x (i ∷ is) = pick (in_shape x (cell_at x i)) (i ∷ shape_of x is) (shape_of x is)

-- message m is that of tile t and direction v
pub record CarriesShape (x : Nest) (m t v : ℕ) : Type 0 where
  pub tile : t < tiles x
  pub direction : (1 ≤ v) × (v ≤ directions x)
  pub sender : sender_of (plan_of Direct x) m ≡ t
  pub holds : (c : ℕ) → In c (held_by (plan_of Direct x) m) ↔ ReadAhead x t v c
  -- t plus v is a tile of the box; the taker is the first tile that exists at or after it in its column
  pub in_box : (j : ℕ) → j < x.dimensions → stands_ahead x t v j < tile_count x j
  pub taker : taker_of (plan_of Direct x) m < tiles x
  pub follows : Follows x t v (taker_of (plan_of Direct x) m)
  pub first : (w : ℕ) → w < tiles x → Follows x t v w → taker_of (plan_of Direct x) m ≤ w
  pub away : processor_of x (box_tile x t) ≢ processor_of x (box_tile x (taker_of (plan_of Direct x) m))

pub record ExactShape (x : Nest) : Type 0 where
  -- tiles are those of the box that hold a cell of the shape, numbered without a gap in the order of their places
  pub tile_exists : (t : ℕ) → t < tiles x → (box_tile x t < box_tiles x) × ((c : ℕ) × In c ((plan_of Direct x).cells_of t))
  pub cell_tile : (c : ℕ) → c < cells x → in_shape x c ≡ true → (tile_of x c < tiles x) × (box_tile x (tile_of x c) ≡ box_tile_of x c)
  pub tile_cells : (t c : ℕ) → t < tiles x
      → In c ((plan_of Direct x).cells_of t) ↔ ((c < cells x) × (in_shape x c ≡ true) × (tile_of x c ≡ t))
  pub tile_order : (t u : ℕ) → t < tiles x → u < tiles x → (t < u) ↔ Before x.dimensions (stands_at x t) (stands_at x u)
  -- each message is one tile's in one direction; each tile and direction with a cell that another processor's tile reads there has one, and
  -- only one; they are numbered by tile, then by direction
  pub message : (m : ℕ) → m < count (plan_of Direct x) → (t : ℕ) × ((v : ℕ) × CarriesShape x m t v)
  pub messages : (t v c : ℕ) → t < tiles x → 1 ≤ v → v ≤ directions x → (r : ReadAhead x t v c)
      → processor_of x (box_tile x t) ≢ processor_of x (box_tile_of x r.reader)
      → (m : ℕ) × (m < count (plan_of Direct x)) × CarriesShape x m t v
  pub order : (m n t v u w : ℕ) → m < count (plan_of Direct x) → n < count (plan_of Direct x) → CarriesShape x m t v → CarriesShape x n u w
      → (m < n) ↔ ((t < u) ⊎ ((t ≡ u) × (v < w)))
  pub one : (m n t v : ℕ) → m < count (plan_of Direct x) → n < count (plan_of Direct x)
      → CarriesShape x m t v → CarriesShape x n t v → m ≡ n
  -- no two messages due at a tile hold the same cell
  pub once : (t m n c : ℕ) → In m (dues_of (plan_of Direct x) t) → In n (dues_of (plan_of Direct x) t)
      → In c (held_by (plan_of Direct x) m) → In c (held_by (plan_of Direct x) n) → m ≡ n
  -- what a cell of the shape reads: the cells of the shape that a distance leads to; all else reads as the boundary, by `shaped_value`
  pub reads : (c r : ℕ) → c < cells x
      → In r (shaped_reads x c)
      ↔ ((r < cells x) × (in_shape x r ≡ true)
      × ((e : ℕ) × (e < x.distances) × ((j : ℕ) → j < x.dimensions → cell_place x r j + component x e j ≡ cell_place x c j)))
  -- the sweep has each cell's value, or the boundary outside
  pub swept : (source : List ℕ) (c : ℕ) → c < cells x → in_shape x c ≡ true
      → get_or (sweep (plan_of Direct x) source) c 0 ≡ shaped_value x source (sweep (plan_of Direct x) source) c
  pub unswept : (source : List ℕ) (c : ℕ) → c < cells x → in_shape x c ≡ false → get_or (sweep (plan_of Direct x) source) c 0 ≡ x.boundary
  -- the report's sequential nest, run at the shape's indices over an array that is the boundary outside and anything inside, leaves the sweep
  pub sweep_is : (source array : List ℕ) → length array ≡ cells x
      → ((c : ℕ) → c < cells x → in_shape x c ≡ false → get_or array c 0 ≡ x.boundary)
      → run_nest x source array (shape_of x (sequential x)) ≡ sweep (plan_of Direct x) source
