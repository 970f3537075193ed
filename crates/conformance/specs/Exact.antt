-- Read this.
-- Demand 2 to the letter, of a whole box: which cells a message holds, which messages there are, index order, the report's programs as loops.
-- Renders document 002, sections 2 to 4; document 01, "Cells, tiles and boards", "Messages" and "The sweep"; requests W-204, W-205.
use Rattle.std.specs.Prelude.{ℕ, ◌+◌, ◌*◌, ◌-◌, ◌/◌, ◌^◌, ◌%◌, ◌≤◌, ◌<◌, min, max, ◌≡◌, ◌⊎◌, ◌≢◌, ◌↔◌, List, [], ◌∷◌, map, length, get_or, set, leb, eqb}
use Rattle.base.specs.Tests.{pick, one, every, sum, tabulate}
use Rattle.base.specs.Lists.{In}
use Rattle.machine.specs.Plan.{count, sender_of, taker_of, held_by, tiles_of, dues_of}
use Rattle.machine.specs.Machine.{sweep}
use Rattle.nest.specs.declared.Nest.{Nest}
use Rattle.nest.specs.Nest.{length_of, tile_length, processor_count, component, weight, cells, processors, box_tiles}
use Rattle.nest.specs.Places.{place, cell_at, cell_place, tile_at, tile_place, box_tile_of}
use Rattle.plan.specs.Geometry.{cells_of, processor_of, reads_of}
use Rattle.plan.specs.declared.Route.{Route}
use Rattle.plan.specs.declared.Route.TheVariants.{Direct, Indirect}
use Rattle.plan.specs.Messages.{directions, ahead, parcel, taker, before, passed, neighbour, box_plan}
use Rattle.plan.specs.Hops.{hops}
use Rattle.conformance.specs.Travels.{Travels}
use Rattle.plan.specs.Loops.{do_loop, for_each, last_tile, nested, loops}

-- ---- which messages there are

-- a way out of a tile is a direction, or on the indirect route a spread dimension: its cells, its taker, and its step in dimension j
abbrev pub Way : Route → Nest → ℕ → Type 0
Way Direct x v = (1 ≤ v) × (v ≤ directions x)
Way Indirect x q = q < x.spread

abbrev pub cells_by : Route → Nest → ℕ → ℕ → List ℕ
cells_by Direct x t v = parcel x t v
cells_by Indirect x t q = passed x t q

abbrev pub taker_by : Route → Nest → ℕ → ℕ → ℕ
taker_by Direct x t v = taker x t v
taker_by Indirect x t q = neighbour x t q

abbrev pub step_by : Route → Nest → ℕ → ℕ → ℕ
step_by Direct x v j = ahead x v j
step_by Indirect x q j = one (eqb j q)

-- message m is that of tile t by way w
pub record MessageBy (r : Route) (x : Nest) (m t w : ℕ) : Type 0 where
  pub tile : t < box_tiles x
  pub way : Way r x w
  pub sender : sender_of (box_plan r x) m ≡ t
  pub holds : held_by (box_plan r x) m ≡ cells_by r x t w
  pub taker_is : taker_of (box_plan r x) m ≡ taker_by r x t w
  -- the taker's place is theirs added, and it is on another processor
  pub ahead_of : (j : ℕ) → j < x.spread → tile_place x (taker_of (box_plan r x) m) j ≡ tile_place x t j + step_by r x w j
  pub beside : (j : ℕ) → x.spread ≤ j → j < x.dimensions → tile_place x (taker_of (box_plan r x) m) j ≡ tile_place x t j
  pub away : processor_of x (sender_of (box_plan r x) m) ≢ processor_of x (taker_of (box_plan r x) m)

-- ---- what a message holds

-- direct: cell c is of the sending tile, and some cell of the taker's chain reads it; the tiles of a chain have one place in the spread
-- dimensions. Where a count is 1 chains side by side are on one processor, and each has its own messages
pub record Read (x : Nest) (m c : ℕ) : Type 0 where
  pub own : box_tile_of x c ≡ sender_of (box_plan Direct x) m
  pub reader : ℕ
  pub cell : reader < cells x
  pub reads : In c (reads_of x reader)
  pub chain : (j : ℕ) → j < x.spread → tile_place x (box_tile_of x reader) j ≡ tile_place x (taker_of (box_plan Direct x) m) j

-- indirect, message of tile t along q: some cell reads c, and on the way from c's tile to that cell's chain, one spread dimension after
-- the other, the step in q goes out from t: those before q are made, those from q on are not
pub record OnItsWay (x : Nest) (t q c : ℕ) : Type 0 where
  pub reader : ℕ
  pub cell : reader < cells x
  pub reads : In c (reads_of x reader)
  pub made : (j : ℕ) → j < q → tile_place x (box_tile_of x reader) j ≡ tile_place x t j
  pub steps : tile_place x (box_tile_of x reader) q ≡ tile_place x t q + 1
  pub ahead_yet : (j : ℕ) → q ≤ j → j < x.dimensions → tile_place x (box_tile_of x c) j ≡ tile_place x t j

-- the same by sets, as W-204 says it: c is in the set of tile t' and direction v, with a one in q, t' being t less v's components before q
pub record Forwarded (x : Nest) (t q c : ℕ) : Type 0 where
  pub t' : ℕ
  pub v : ℕ
  pub tile : t' < box_tiles x
  pub direction : v ≤ directions x
  pub along : ahead x v q ≡ 1
  pub less : (j : ℕ) → j < x.dimensions → tile_place x t' j + before x q v j ≡ tile_place x t j
  pub holds : In c (parcel x t' v)

-- ---- index order

-- place i before place k, of l components each: the first in which they differ is less
pub record Before (l : ℕ) (i k : ℕ → ℕ) : Type 0 where
  pub at : ℕ
  pub low : at < l
  pub same : (j : ℕ) → j < at → i j ≡ k j
  pub less : i at < k at

-- ---- the report's programs: the indices in the order in which their loops meet them; all L are 0, and U is the length less 1

-- DO (i1, .., in) ((L1, U1), .., (Ln, Un)): the sequential nest
unfoldable pub sequential : Nest → List (ℕ → ℕ)
sequential x = nested (λ j. do_loop 0 (length_of x j - 1) 1) x.dimensions

-- the inner loops of the tiled program, for tile index t
unfoldable pub inner : Nest → (ℕ → ℕ) → List (ℕ → ℕ)
inner x t =
    nested
    (λ j. do_loop (max 0 (t j * tile_length x j)) (min (length_of x j - 1) (t j * tile_length x j + tile_length x j - 1)) 1)
    x.dimensions

-- its outer loops, over all tiles, and the tiled program on one processor
unfoldable pub outer : Nest → List (ℕ → ℕ)
outer x = nested (λ j. do_loop 0 (last_tile x j) 1) x.dimensions

unfoldable pub tiled : Nest → List (ℕ → ℕ)
tiled x = for_each (inner x) (outer x)

-- Figure 4: the tiled program of processor p
unfoldable pub figure4 : Nest → ℕ → List (ℕ → ℕ)
figure4 x p = for_each (inner x) (loops x (place (processor_count x) x.spread p) x.dimensions)

-- ---- the nest's body

-- what it reads by distance e at index i: the array at i - d as it then is, or the boundary where that is no index
unfoldable pub read_from : Nest → List ℕ → (ℕ → ℕ) → ℕ → ℕ
read_from x array i e =
    pick (every (λ j. leb (component x e j) (i j)) x.dimensions) (get_or array (cell_at x (λ j. i j - component x e j)) 0) x.boundary

-- what it stores at index i
unfoldable pub body : Nest → List ℕ → List ℕ → (ℕ → ℕ) → ℕ
body x source array i =
    (get_or source (cell_at x i) 0 + sum (λ e. weight x e * read_from x array i e) x.distances) / 2 ^ x.shift % 2 ^ 32

-- the body carried out at each index in turn
unfoldable pub run_nest : Nest → List ℕ → List ℕ → List (ℕ → ℕ) → List ℕ
run_nest x source array [] = array
run_nest x source array (i ∷ is) = run_nest x source (set array (cell_at x i) (body x source array i)) is

-- ---- the claim

pub record Exact (x : Nest) : Type 0 where
  -- direct: a message holds exactly those cells of the sending tile that the taker's chain reads
  pub reads : (m c : ℕ) → m < count (box_plan Direct x) → In c (held_by (box_plan Direct x) m) ↔ Read x m c
  -- indirect: exactly those that are on their way over the sending tile, its own and others'; as sets they are W-204's
  pub passes : (m t q c : ℕ) → MessageBy Indirect x m t q → In c (held_by (box_plan Indirect x) m) ↔ OnItsWay x t q c
  pub forwards : (m t q c : ℕ) → MessageBy Indirect x m t q → In c (held_by (box_plan Indirect x) m) ↔ Forwarded x t q c
  -- there each cell of each direct set goes its way, by as many messages as v has ones in dimensions with a count above 1
  pub travels : (t v c : ℕ) → t < box_tiles x → v ≤ directions x → In c (parcel x t v) → Travels x t v c
  pub hops_are : ((j : ℕ) → j < x.spread → 2 ≤ processor_count x j) → (v : ℕ) → hops x v ≡ sum (ahead x v) x.spread
  -- each message is one tile's by one way; each tile and way with a cell to send to another processor has one, and only one;
  -- with all counts above 1 the taker always is on another
  pub message : (r : Route) (m : ℕ) → m < count (box_plan r x) → (t : ℕ) × ((w : ℕ) × MessageBy r x m t w)
  pub messages : (r : Route) (t w : ℕ) → t < box_tiles x → Way r x w → 0 < length (cells_by r x t w)
      → processor_of x t ≢ processor_of x (taker_by r x t w) → (m : ℕ) × (m < count (box_plan r x)) × MessageBy r x m t w
  pub apart : ((j : ℕ) → j < x.spread → 2 ≤ processor_count x j) → (r : Route) (t w : ℕ) → t < box_tiles x → Way r x w
      → 0 < length (cells_by r x t w) → processor_of x t ≢ processor_of x (taker_by r x t w)
  pub one : (r : Route) (m n t w : ℕ) → m < count (box_plan r x) → n < count (box_plan r x) → MessageBy r x m t w → MessageBy r x n t w → m ≡ n
  -- they are numbered by tile, then by direction or dimension
  pub order : (r : Route) (m n t v u w : ℕ) → m < count (box_plan r x) → n < count (box_plan r x) → MessageBy r x m t v → MessageBy r x n u w
      → (m < n) ↔ ((t < u) ⊎ ((t ≡ u) × (v < w)))
  -- no two messages due at a tile hold the same cell
  pub once : (r : Route) (t m n c : ℕ) → In m (dues_of (box_plan r x) t) → In n (dues_of (box_plan r x) t)
      → In c (held_by (box_plan r x) m) → In c (held_by (box_plan r x) n) → m ≡ n
  -- cells, tiles, processors and directions are numbered in the lexicographic order of their places
  pub cell_order : (c e : ℕ) → c < cells x → e < cells x → (c < e) ↔ Before x.dimensions (cell_place x c) (cell_place x e)
  pub tile_order : (t u : ℕ) → t < box_tiles x → u < box_tiles x → (t < u) ↔ Before x.dimensions (tile_place x t) (tile_place x u)
  pub processor_order : (p q : ℕ) → p < processors x → q < processors x
      → (p < q) ↔ Before x.spread (place (processor_count x) x.spread p) (place (processor_count x) x.spread q)
  pub direction_order : (v w : ℕ) → v ≤ directions x → w ≤ directions x → (v < w) ↔ Before x.spread (ahead x v) (ahead x w)
  -- the sequential nest meets the cells 0, 1, 2, .., and the tiled program's outer loops so the tiles; its inner loops meet a tile's cells
  pub cells_in_order : map (cell_at x) (sequential x) ≡ tabulate (λ c. c) (cells x)
  pub tiles_in_order : map (tile_at x) (outer x) ≡ tabulate (λ t. t) (box_tiles x)
  pub tile_in_order : (t : ℕ) → t < box_tiles x → map (cell_at x) (inner x (tile_place x t)) ≡ cells_of x t
  -- Figure 4 meets on processor p the cells of p's tiles, tile by tile
  pub program : (r : Route) (p : ℕ) → p < processors x → map (cell_at x) (figure4 x p) ≡ for_each (cells_of x) (tiles_of (box_plan r x) p)
  -- the sequential nest, run over an array of any content, leaves the sweep, and so does the tiled program
  pub sweep_is : (r : Route) (source array : List ℕ) → length array ≡ cells x
      → run_nest x source array (sequential x) ≡ sweep (box_plan r x) source
  pub tiled_is : (r : Route) (source array : List ℕ) → length array ≡ cells x
      → run_nest x source array (tiled x) ≡ sweep (box_plan r x) source
