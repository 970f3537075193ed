-- Read this.
-- A nest with bounds on the direct route: its tiles' numbers and cells, the sweep and the messages; and the plan of any nest on either route.
-- Renders document 02, W-209. `box_tile` leads from a tile's number to its number in the box, of which the box's definitions speak.
use Rattle.std.specs.Prelude.{ℕ, ◌+◌, ◌*◌, ◌/◌, ◌%◌, ◌^◌, Bool, true, List, [], map, length, get_or, leb, eqb}
use Rattle.base.specs.Tests.{◌and◌, pick, every, some, keep, sum}
use Rattle.machine.specs.Plan.{Message, Plan}
use Rattle.nest.specs.declared.Nest.{Nest}
use Rattle.nest.specs.Nest.{component, weight, cells, box_tiles, processors}
use Rattle.nest.specs.Places.{cell_at, cell_place, tile_place, box_tile_of}
use Rattle.nest.specs.Shape.{in_shape, exists, existing, tiles}
use Rattle.plan.specs.declared.Route.{Route}
use Rattle.plan.specs.declared.Route.TheVariants.{Direct, Indirect}
use Rattle.plan.specs.Geometry.{cells_of, processor_of, has_read, read_at, reads_of, value}
use Rattle.plan.specs.Messages.{directions, ahead, reaches, taker, slot_tile, slot_direction, messages_of, messages}

-- ---- tiles: a tile's number is its place among those that exist

-- its number in the box; behind the last tile the number itself, so that in a whole box every number is its own
unfoldable pub box_tile : Nest → ℕ → ℕ
box_tile x t = get_or (existing x) t t

-- the tile of a cell of the shape: as many tiles exist before it in the box
unfoldable pub tile_of : Nest → ℕ → ℕ
tile_of x c = length (keep (exists x) (box_tile_of x c))

-- the cells of the shape in tile u of the box, in index order
unfoldable pub shaped_cells : Nest → ℕ → List ℕ
shaped_cells x u = keep (λ c. in_shape x c and eqb (box_tile_of x c) u) (cells x)

-- ---- the sweep: what lies outside reads as the boundary

-- distance e from cell c leads to a cell of the shape
unfoldable pub reads_shape : Nest → ℕ → ℕ → Bool
reads_shape x c e = has_read x c e and in_shape x (read_at x c e)

unfoldable pub shaped_reads : Nest → ℕ → List ℕ
shaped_reads x c = map (read_at x c) (keep (reads_shape x c) x.distances)

unfoldable pub shaped_value : Nest → List ℕ → List ℕ → ℕ → ℕ
shaped_value x source memory c =
    (get_or source c 0 + sum (λ e. weight x e * pick (reads_shape x c e) (get_or memory (read_at x c e) 0) x.boundary) x.distances)
    / 2 ^ x.shift % 2 ^ 32

-- ---- the set of tile u of the box and direction v

-- distance e puts cell c in the shape, in a tile that differs from u by exactly v in the spread dimensions
unfoldable pub reaches_shape : Nest → ℕ → ℕ → ℕ → ℕ → Bool
reaches_shape x u v c e = reaches x u v c e and in_shape x (cell_at x (λ j. cell_place x c j + component x e j))

-- the cells of the shape in u that some distance so puts, each once, in index order
unfoldable pub shaped_parcel : Nest → ℕ → ℕ → List ℕ
shaped_parcel x u v = keep (λ c. in_shape x c and eqb (box_tile_of x c) u and some (reaches_shape x u v c) x.distances) (cells x)

-- tile w stands at or after u plus v in index order, and in its column: the spread components are the same
unfoldable pub follows : Nest → ℕ → ℕ → ℕ → Bool
follows x u v w =
    leb (taker x u v) (box_tile x w) and every (λ j. eqb (tile_place x (box_tile x w) j) (tile_place x u j + ahead x v j)) x.spread

-- the taker: the first such tile
unfoldable pub shaped_taker : Nest → ℕ → ℕ → ℕ
shaped_taker x u v = get_or (keep (follows x u v) (tiles x)) 0 0

-- ---- messages: of the slots, by tile, then by direction, those that hold a cell for another processor

abbrev pub slot_box : Nest → ℕ → ℕ
slot_box x s = box_tile x (slot_tile Direct x s)

unfoldable pub shaped_slot_taker : Nest → ℕ → ℕ
shaped_slot_taker x s = shaped_taker x (slot_box x s) (slot_direction x s)

unfoldable pub shaped_home : Nest → ℕ → Bool
shaped_home x s = eqb (processor_of x (slot_box x s)) (processor_of x (box_tile x (shaped_slot_taker x s)))

unfoldable pub shaped_slot_parcel : Nest → ℕ → List ℕ
shaped_slot_parcel x s = pick (shaped_home x s) [] (shaped_parcel x (slot_box x s) (slot_direction x s))

abbrev pub shaped_message : Nest → ℕ → Message
shaped_message x s = record { sender = slot_tile Direct x s; taker = shaped_slot_taker x s; cells = shaped_slot_parcel x s }

abbrev pub shaped_slots : Nest → ℕ
shaped_slots x = tiles x * directions x

abbrev pub shaped_messages : Nest → List Message
shaped_messages x = messages_of (shaped_message x) (shaped_slots x)

-- ---- the plan of a nest: on the direct route that of its shape; indirect passing is for nests without bounds (line 21), whose plan is the box's

abbrev pub by_route : {A : Type 0} → Route → A → A → A
by_route Direct shaped box = shaped
by_route Indirect shaped box = box

abbrev pub plan_of : Route → Nest → Plan
plan_of r x =
    record {
      cells = cells x;
      inside = by_route r (in_shape x) (λ c. true);
      boundary = x.boundary;
      tiles = by_route r (tiles x) (box_tiles x);
      processors = processors x;
      tile_of = by_route r (tile_of x) (box_tile_of x);
      cells_of = by_route r (λ t. shaped_cells x (box_tile x t)) (cells_of x);
      processor_of = by_route r (λ t. processor_of x (box_tile x t)) (processor_of x);
      messages = by_route r (shaped_messages x) (messages Indirect x);
      reads_of = by_route r (shaped_reads x) (reads_of x);
      value = by_route r (shaped_value x) (value x);
    }
