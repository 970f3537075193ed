-- Sets and messages of small nests, computed: what soundness leaves open. The rows cite them.
use Prim.Native.Nat.{ℕ}
use mathlib.Core.Path.{◌≡◌, refl}
use mathlib.Core.List.{List, [], ◌∷◌}
use lib.ListN.{replicate}
use Rattle.base.specs.Tests.{◌and◌, ◌or◌, pick, every, some, keep, product}
use Rattle.machine.specs.Plan.{Message}
use Rattle.nest.specs.declared.Nest.{Nest}
use Rattle.nest.specs.Nest.{tile_count, cells, box_tiles}
use Rattle.nest.specs.Places.{rank, place, cell_at, cell_place, tile_at, tile_place, box_tile_of}
use Rattle.nest.specs.Shape.{level, raised, meets, in_shape, exists, existing, tiles}
use Rattle.plan.specs.declared.Route.TheVariants.{Direct}
use Rattle.plan.specs.Geometry.{processor_of, inside}
use Rattle.plan.specs.Messages.{directions, ahead, reaches, crosses, parcel, taker, before, has_origin, origin, passes, passed, messages_of}
use Rattle.plan.specs.Shaped.{box_tile, tile_of, reaches_shape, shaped_parcel, follows, shaped_taker, shaped_slot_taker, shaped_home, shaped_slot_parcel, plan_of}

-- ---- without bounds

abbrev pub nest : ℕ → ℕ → ℕ → List ℕ → List ℕ → List ℕ → List ℕ → List ℕ → Nest
nest n m e N k P d w =
    record {
      dimensions = n;
      spread = m;
      distances = e;
      bounds = 0;
      lengths = N;
      tiling = k;
      counts = P;
      components = d;
      weights = w;
      sides = replicate 4 0;
      bounded = replicate 4 0;
      earlier = replicate 4 0;
      slopes = replicate 4 0;
      offsets = replicate 4 0;
      shift = 0;
      boundary = 0;
    }

-- N 9,1 k 3,2 P 2,0, distances (1,0) (0,1) (2,1): cell 1 is read in its own tile alone
abbrev pub nest_wide : Nest
nest_wide =
    nest 2 1 3 (9 ∷ 1 ∷ 0 ∷ 0 ∷ []) (3 ∷ 2 ∷ 0 ∷ 0 ∷ []) (2 ∷ 0 ∷ 0 ∷ 0 ∷ []) (1 ∷ 0 ∷ 0 ∷ 0 ∷ 0 ∷ 1 ∷ 0 ∷ 0 ∷ 2 ∷ 1 ∷ replicate 22 0)
    (1 ∷ 1 ∷ 1 ∷ replicate 5 0)

pub parcel_wide : parcel nest_wide 0 1 ≡ 2 ∷ []
unfolding ◌and◌ ◌or◌ pick every some keep product tile_count cells rank place cell_at cell_place tile_at tile_place box_tile_of inside ahead reaches crosses parcel
parcel_wide = refl

-- N 4,4 k 2,2 P 2,0, distance (1,2): the cells' readers are in tile 3, behind the taker
abbrev pub nest_later : Nest
nest_later = nest 2 1 1 (4 ∷ 4 ∷ 0 ∷ 0 ∷ []) (2 ∷ 2 ∷ 0 ∷ 0 ∷ []) (2 ∷ 0 ∷ 0 ∷ 0 ∷ []) (1 ∷ 2 ∷ replicate 30 0) (1 ∷ replicate 7 0)

pub parcel_later : parcel nest_later 0 1 ≡ 4 ∷ 5 ∷ []
unfolding ◌and◌ ◌or◌ pick every some keep product tile_count cells rank place cell_at cell_place tile_at tile_place box_tile_of inside ahead reaches crosses parcel
parcel_later = refl

-- N 3,4,1 k 2,2,1 P 2,2,0, distance (1,1,0): tile 2 passes on a cell of tile 0
abbrev pub nest_edge : Nest
nest_edge = nest 3 2 1 (3 ∷ 4 ∷ 1 ∷ 0 ∷ []) (2 ∷ 2 ∷ 1 ∷ 0 ∷ []) (2 ∷ 2 ∷ 0 ∷ 0 ∷ []) (1 ∷ 1 ∷ replicate 30 0) (1 ∷ replicate 7 0)

pub passed_edge : passed nest_edge 2 1 ≡ 5 ∷ []
unfolding ◌and◌ ◌or◌ pick every some keep product tile_count cells box_tiles rank place cell_at cell_place tile_at tile_place box_tile_of inside directions ahead
    reaches crosses before has_origin origin passes passed
passed_edge = refl

-- ---- with bounds

-- with one bound, a lower one of the second dimension by the first
abbrev pub with_bound : ℕ → ℕ → ℕ → List ℕ → List ℕ → List ℕ → List ℕ → List ℕ → ℕ → ℕ → ℕ → Nest
with_bound n m e N k P d w slope offset shore =
    record {
      dimensions = n;
      spread = m;
      distances = e;
      bounds = 1;
      lengths = N;
      tiling = k;
      counts = P;
      components = d;
      weights = w;
      sides = replicate 4 0;
      bounded = 1 ∷ replicate 3 0;
      earlier = replicate 4 0;
      slopes = slope ∷ replicate 3 0;
      offsets = offset ∷ replicate 3 0;
      shift = 0;
      boundary = shore;
    }

abbrev mail : ℕ → ℕ → List ℕ → Message
mail s t cs = record { sender = s; taker = t; cells = cs }

abbrev pub nest_triangle : Nest
nest_triangle = with_bound 2 1 1 (2 ∷ 2 ∷ 0 ∷ 0 ∷ []) (1 ∷ 1 ∷ 0 ∷ 0 ∷ []) (2 ∷ 0 ∷ 0 ∷ 0 ∷ [])
    (1 ∷ 1 ∷ replicate 30 0) (1 ∷ replicate 7 0) 2 32768 7

pub messages_triangle : (plan_of Direct nest_triangle).messages ≡ mail 0 2 (0 ∷ []) ∷ []
unfolding ◌and◌ ◌or◌ pick every some keep product rank place cell_at cell_place tile_at tile_place box_tile_of tile_count cells box_tiles level raised meets in_shape
    exists existing tiles inside directions ahead reaches processor_of box_tile reaches_shape shaped_parcel taker follows shaped_taker shaped_slot_taker shaped_home
    shaped_slot_parcel messages_of
messages_triangle = refl

abbrev pub nest_column : Nest
nest_column = with_bound 3 1 1 (2 ∷ 2 ∷ 3 ∷ 0 ∷ []) (1 ∷ 1 ∷ 1 ∷ 0 ∷ []) (2 ∷ 0 ∷ 0 ∷ 0 ∷ [])
    (1 ∷ 1 ∷ replicate 30 0) (1 ∷ replicate 7 0) 2 32768 0

pub messages_column : (plan_of Direct nest_column).messages ≡ mail 0 6 (0 ∷ []) ∷ mail 1 6 (1 ∷ []) ∷ mail 2 6 (2 ∷ []) ∷ []
unfolding ◌and◌ ◌or◌ pick every some keep product rank place cell_at cell_place tile_at tile_place box_tile_of tile_count cells box_tiles level raised meets in_shape
    exists existing tiles inside directions ahead reaches processor_of box_tile reaches_shape shaped_parcel taker follows shaped_taker shaped_slot_taker shaped_home
    shaped_slot_parcel messages_of
messages_column = refl

pub tile_column : tile_of nest_column 11 ≡ 8
unfolding tile_of ◌and◌ ◌or◌ pick every some keep product rank place cell_at cell_place tile_at tile_place box_tile_of tile_count cells box_tiles level raised meets
    in_shape exists existing tiles
tile_column = refl

abbrev pub nest_outside : Nest
nest_outside = with_bound 2 1 1 (4 ∷ 4 ∷ 0 ∷ 0 ∷ []) (2 ∷ 2 ∷ 0 ∷ 0 ∷ []) (2 ∷ 0 ∷ 0 ∷ 0 ∷ [])
    (1 ∷ 2 ∷ replicate 30 0) (1 ∷ replicate 7 0) 2 32768 0

pub messages_outside : (plan_of Direct nest_outside).messages ≡ mail 0 2 (5 ∷ []) ∷ []
unfolding ◌and◌ ◌or◌ pick every some keep product rank place cell_at cell_place tile_at tile_place box_tile_of tile_count cells box_tiles level raised meets in_shape
    exists existing tiles inside directions ahead reaches processor_of box_tile reaches_shape shaped_parcel taker follows shaped_taker shaped_slot_taker shaped_home
    shaped_slot_parcel messages_of
messages_outside = refl
