-- Read this.
-- The exact cells of each message on either route, the messages in order, and the plan of a nest. Renders document 01, "Messages"; W-204; W-205.
-- A slot is a tile with a direction or, indirect, a spread dimension; a slot that holds a cell for another processor is a message.
use Rattle.std.specs.Prelude.{ℕ, zero, suc, ◌+◌, ◌*◌, ◌-◌, ◌/◌, ◌%◌, Bool, true, List, [], ◌∷◌, ◌++◌, length, ltb, leb, eqb}
use Rattle.base.specs.Tests.{◌and◌, pick, one, every, some, keep, product}
use Rattle.nest.specs.declared.Nest.{Nest}
use Rattle.nest.specs.Nest.{tile_length, component, cells, processors, box_tiles}
use Rattle.machine.specs.Plan.{Message, Plan}
use Rattle.plan.specs.declared.Route.{Route}
use Rattle.plan.specs.declared.Route.TheVariants.{Direct, Indirect}
use Rattle.nest.specs.Places.{place, cell_place, tile_at, tile_place, box_tile_of}
use Rattle.plan.specs.Geometry.{cells_of, processor_of, inside, reads_of, value}

abbrev pub two : ℕ → ℕ
two j = 2

-- a direction is the number in index order of its components, each 0 or 1, one for each spread dimension; 0 is none
unfoldable pub directions : Nest → ℕ
directions x = product two x.spread - 1

unfoldable pub ahead : Nest → ℕ → ℕ → ℕ
ahead x v = place two x.spread v

-- ---- the set of tile t and direction v

-- distance e puts cell c inside the nest, in a tile that differs from t by exactly v in the spread dimensions
unfoldable pub reaches : Nest → ℕ → ℕ → ℕ → ℕ → Bool
reaches x t v c e =
    inside x (λ j. cell_place x c j + component x e j)
    and every (λ j. eqb ((cell_place x c j + component x e j) / tile_length x j) (tile_place x t j + ahead x v j)) x.spread

-- c is a cell of t that some distance so puts
unfoldable pub crosses : Nest → ℕ → ℕ → ℕ → Bool
crosses x t v c = eqb (box_tile_of x c) t and some (reaches x t v c) x.distances

-- these cells, each once, in index order
unfoldable pub parcel : Nest → ℕ → ℕ → List ℕ
parcel x t v = keep (crosses x t v) (cells x)

-- the taker: t plus v, unspread components as in t
unfoldable pub taker : Nest → ℕ → ℕ → ℕ
taker x t v = tile_at x (λ j. tile_place x t j + ahead x v j)

-- ---- the indirect route: the set of tile t and spread dimension q

-- v's components before q
unfoldable pub before : Nest → ℕ → ℕ → ℕ → ℕ
before x q v j = pick (ltb j q) (ahead x v j) 0

-- t less v's components before q: whether there is such a tile, and which
unfoldable pub has_origin : Nest → ℕ → ℕ → ℕ → Bool
has_origin x t q v = every (λ j. leb (before x q v j) (tile_place x t j)) x.dimensions

unfoldable pub origin : Nest → ℕ → ℕ → ℕ → ℕ
origin x t q v = tile_at x (λ j. tile_place x t j - before x q v j)

-- v's q-th component is 1, and c is in the set of that tile and v
unfoldable pub passes : Nest → ℕ → ℕ → ℕ → ℕ → Bool
passes x t q c v = eqb (ahead x v q) 1 and has_origin x t q v and crosses x (origin x t q v) v c

-- the cells that t so passes on along q, its own and others', each once, in index order
unfoldable pub passed : Nest → ℕ → ℕ → List ℕ
passed x t q = keep (λ c. some (passes x t q c) (directions x + 1)) (cells x)

-- the taker: t plus one in q
unfoldable pub neighbour : Nest → ℕ → ℕ → ℕ
neighbour x t q = tile_at x (λ j. tile_place x t j + one (eqb j q))

-- ---- slots in order: by tile, then by direction or by spread dimension

abbrev pub ways : Route → Nest → ℕ
ways Direct x = directions x
ways Indirect x = x.spread

abbrev pub slots : Route → Nest → ℕ
slots r x = box_tiles x * ways r x

abbrev pub slot_tile : Route → Nest → ℕ → ℕ
slot_tile r x s = s / ways r x

-- on the direct route the slot's direction, on the indirect route its dimension
abbrev pub slot_direction : Nest → ℕ → ℕ
slot_direction x s = s % directions x + 1

abbrev pub slot_dimension : Nest → ℕ → ℕ
slot_dimension x s = s % x.spread

unfoldable pub slot_cells : Route → Nest → ℕ → List ℕ
slot_cells Direct x s = parcel x (slot_tile Direct x s) (slot_direction x s)
slot_cells Indirect x s = passed x (slot_tile Indirect x s) (slot_dimension x s)

unfoldable pub slot_taker : Route → Nest → ℕ → ℕ
slot_taker Direct x s = taker x (slot_tile Direct x s) (slot_direction x s)
slot_taker Indirect x s = neighbour x (slot_tile Indirect x s) (slot_dimension x s)

-- the sending and the taking processor are the same: its memory already holds the cells (W-205)
unfoldable pub at_home : Route → Nest → ℕ → Bool
at_home r x s = eqb (processor_of x (slot_tile r x s)) (processor_of x (slot_taker r x s))

unfoldable pub slot_parcel : Route → Nest → ℕ → List ℕ
slot_parcel r x s = pick (at_home r x s) [] (slot_cells r x s)

-- ---- messages

abbrev pub slot_message : Route → Nest → ℕ → Message
slot_message r x s = record { sender = slot_tile r x s; taker = slot_taker r x s; cells = slot_parcel r x s }

-- the messages of the first n slots, whatever each holds: an empty set is no message
unfoldable pub messages_of : (ℕ → Message) → ℕ → List Message
messages_of slot zero = []
messages_of slot (suc s) = messages_of slot s ++ pick (ltb 0 (length (slot s).cells)) (slot s ∷ []) []

unfoldable pub messages_to : Route → Nest → ℕ → List Message
unfolding messages_of
messages_to r x s = messages_of (slot_message r x) s

abbrev pub messages : Route → Nest → List Message
messages r x = messages_to r x (slots r x)

-- the plan of the whole box; a nest without bounds has no other
abbrev pub box_plan : Route → Nest → Plan
box_plan r x =
    record {
      cells = cells x;
      inside = λ c. true;
      boundary = x.boundary;
      tiles = box_tiles x;
      processors = processors x;
      tile_of = box_tile_of x;
      cells_of = cells_of x;
      processor_of = processor_of x;
      messages = messages r x;
      reads_of = reads_of x;
      value = value x;
    }
