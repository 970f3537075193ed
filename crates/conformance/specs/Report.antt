-- Read this.
-- The report TR-CS-93-16 in its own terms, and what it is proved to say of our plan of a box. A vector is a function from the dimension; an
-- m-vector is 0 from m on. Renders document 002, sections 2 to 4; document 01 cites it in "Messages".
use Rattle.std.specs.Prelude.{ℕ, zero, suc, ◌+◌, ◌*◌, ◌-◌, ◌≤◌, ◌<◌, min, max, ◌≡◌, ◌↔◌, Bool, List, map, ltb, leb, eqb}
use Rattle.base.specs.Tests.{◌and◌, ◌or◌, pick, one, every, some, keep}
use Rattle.base.specs.Lists.{In}
use Rattle.machine.specs.Plan.{tiles_of, dues_of, held_by}
use Rattle.nest.specs.declared.Nest.{Nest}
use Rattle.nest.specs.Nest.{length_of, tile_length, processor_count, component, cells, processors, box_tiles}
use Rattle.nest.specs.Places.{place, cell_at, cell_place, tile_at, tile_place}
use Rattle.plan.specs.Geometry.{cells_of, processor_of}
use Rattle.plan.specs.declared.Route.{Route}
use Rattle.plan.specs.declared.Route.TheVariants.{Direct, Indirect}
use Rattle.plan.specs.Messages.{directions, ahead, parcel, passed, box_plan}
use Rattle.plan.specs.Hops.{hops}
use Rattle.plan.specs.Loops.{allocation, loops}

-- ---- section 2: index set, tiles

-- the index set: C i ≤ c
abbrev pub Index : Nest → (ℕ → ℕ) → Type 0
Index x i = (j : ℕ) → j < x.dimensions → i j < length_of x j

-- the tile with tile index t: k · t ≤ i ≤ k · t + k - 1
pub record Tile (x : Nest) (t i : ℕ → ℕ) : Type 0 where
  pub inside : Index x i
  pub least : (j : ℕ) → j < x.dimensions → t j * tile_length x j ≤ i j
  pub most : (j : ℕ) → j < x.dimensions → i j < t j * tile_length x j + tile_length x j

-- the tile index set: the tile is not empty
abbrev pub TileIndex : Nest → (ℕ → ℕ) → Type 0
TileIndex x t = (i : ℕ → ℕ) × Tile x t i

-- ---- sections 3 and 4: the sets for tile index t and distance e

-- Definition 2, to the neighbouring tile t + b
pub record RemoteWrite (x : Nest) (t b : ℕ → ℕ) (e : ℕ) (i : ℕ → ℕ) : Type 0 where
  pub written : Tile x t i
  pub read : Tile x (λ j. t j + b j) (λ j. i j + component x e j)

-- Definition 3: the union over the b with b|1,m = v
pub record SendSet (x : Nest) (t v : ℕ → ℕ) (e : ℕ) (i : ℕ → ℕ) : Type 0 where
  pub b : ℕ → ℕ
  pub binary : (j : ℕ) → j < x.dimensions → b j ≤ 1
  pub agrees : (j : ℕ) → j < x.spread → b j ≡ v j
  pub write : RemoteWrite x t b e i

-- Definition 4: the send set of tile t - v, where there is one
pub record ReceiveSet (x : Nest) (t v : ℕ → ℕ) (e : ℕ) (i : ℕ → ℕ) : Type 0 where
  pub exists : (j : ℕ) → j < x.dimensions → v j ≤ t j
  pub sent : SendSet x (λ j. t j - v j) v e i

-- v|q+1,m
abbrev pub after : (ℕ → ℕ) → ℕ → ℕ → ℕ
after v q j = pick (ltb q j) (v j) 0

-- Theorem 4, the merged receive set of tile t along dimension q: the union over the v with e_q ≤ v ≤ 1 of the receive sets of t + v|q+1,m
pub record MergedReceiveSet (x : Nest) (t : ℕ → ℕ) (q e : ℕ) (i : ℕ → ℕ) : Type 0 where
  pub v : ℕ → ℕ
  pub vector : (j : ℕ) → x.spread ≤ j → v j ≡ 0
  pub binary : (j : ℕ) → j < x.spread → v j ≤ 1
  pub along : v q ≡ 1
  pub received : ReceiveSet x (λ j. t j + after v q j) v e i

-- the merged send set: what tile t + e_q receives
abbrev pub MergedSendSet : Nest → (ℕ → ℕ) → ℕ → ℕ → (ℕ → ℕ) → Type 0
MergedSendSet x t q e i = MergedReceiveSet x (λ j. t j + one (eqb j q)) q e i

-- Theorem 1's inequalities
pub record Theorem1 (x : Nest) (t v : ℕ → ℕ) (e : ℕ) (i : ℕ → ℕ) : Type 0 where
  pub inside : Index x i
  pub moved : Index x (λ j. i j + component x e j)
  pub least : (j : ℕ) → j < x.spread → t j * tile_length x j + v j * (tile_length x j - component x e j) ≤ i j
  pub most : (j : ℕ) → j < x.spread → i j + (1 - v j) * component x e j < t j * tile_length x j + tile_length x j
  pub least_rest : (j : ℕ) → x.spread ≤ j → j < x.dimensions → t j * tile_length x j ≤ i j
  pub most_rest : (j : ℕ) → x.spread ≤ j → j < x.dimensions → i j < t j * tile_length x j + tile_length x j

-- the union over all distances
abbrev pub Joined : Nest → (ℕ → Type 0) → Type 0
Joined x set = (e : ℕ) × (e < x.distances) × set e

-- ---- the claim

pub record ReportAgrees (x : Nest) : Type 0 where
  -- our cells are the index set, our tiles the tile index set
  pub cell_index : (c : ℕ) → Index x (cell_place x c)
  pub index_cell : (i : ℕ → ℕ) → Index x i → (cell_at x i < cells x) × ((j : ℕ) → j < x.dimensions → cell_place x (cell_at x i) j ≡ i j)
  pub tile_index : (t : ℕ) → t < box_tiles x → TileIndex x (tile_place x t)
  pub index_tile : (t : ℕ → ℕ) → TileIndex x t → (tile_at x t < box_tiles x) × ((j : ℕ) → j < x.dimensions → tile_place x (tile_at x t) j ≡ t j)
  pub tile_cells : (t c : ℕ) → t < box_tiles x → c < cells x → In c (cells_of x t) ↔ Tile x (tile_place x t) (cell_place x c)
  -- a tile's processor is its allocation, and Figure 4's order of a processor's tiles is ours
  pub allocated : (t j : ℕ) → j < x.spread → place (processor_count x) x.spread (processor_of x t) j ≡ allocation x (tile_place x t) j
  pub order : (r : Route) (p : ℕ) → p < processors x
      → map (tile_at x) (loops x (place (processor_count x) x.spread p) x.dimensions) ≡ tiles_of (box_plan r x) p
  -- its equation (1) by footnote 3, for a count of 1 too: tiles t and t + b are on one processor exactly where b is 0 in every spread
  -- dimension with a count above 1
  pub same_processor : (t b : ℕ → ℕ) → ((j : ℕ) → j < x.spread → b j ≤ 1)
      → ((j : ℕ) → j < x.spread → allocation x t j ≡ allocation x (λ i. t i + b i) j)
      ↔ ((j : ℕ) → j < x.spread → 1 < processor_count x j → b j ≡ 0)
  -- our directions are the binary m-vectors but 0
  pub direction : (v : ℕ) → 1 ≤ v → v ≤ directions x
      → ((j : ℕ) → j < x.spread → ahead x v j ≤ 1) × ((j : ℕ) × (j < x.spread) × (ahead x v j ≡ 1))
  pub directed : (b : ℕ → ℕ) → ((j : ℕ) → j < x.spread → b j ≤ 1) → ((j : ℕ) × (j < x.spread) × (b j ≡ 1))
      → (v : ℕ) × (1 ≤ v) × (v ≤ directions x) × ((j : ℕ) → j < x.spread → ahead x v j ≡ b j)
  -- our set (t, v), a message where it leaves the processor, is the union of the send sets, by Definition 3 and by Theorem 1
  pub sends : (t v c : ℕ) → t < box_tiles x → c < cells x
      → In c (parcel x t v) ↔ Joined x (λ e. SendSet x (tile_place x t) (ahead x v) e (cell_place x c))
  pub sends_theorem1 : (t v c : ℕ) → t < box_tiles x → c < cells x
      → In c (parcel x t v) ↔ Joined x (λ e. Theorem1 x (tile_place x t) (ahead x v) e (cell_place x c))
  -- direct passing: the messages due at tile t are the unions of its receive sets, one for each direction that goes to another processor;
  -- the report has all counts above 1, and then each direction does
  pub dues : (t m : ℕ) → t < box_tiles x → In m (dues_of (box_plan Direct x) t)
      → (v : ℕ) × (1 ≤ v) × (v ≤ directions x) × (1 ≤ hops x v)
      × ((c : ℕ) → c < cells x
      → In c (held_by (box_plan Direct x) m) ↔ Joined x (λ e. ReceiveSet x (tile_place x t) (ahead x v) e (cell_place x c)))
  pub received : (t v c : ℕ) → t < box_tiles x → 1 ≤ v → v ≤ directions x → 1 ≤ hops x v → c < cells x
      → Joined x (λ e. ReceiveSet x (tile_place x t) (ahead x v) e (cell_place x c))
      → (m : ℕ) × In m (dues_of (box_plan Direct x) t) × In c (held_by (box_plan Direct x) m)
  pub apart : ((j : ℕ) → j < x.spread → 2 ≤ processor_count x j) → (v : ℕ) → 1 ≤ v → v ≤ directions x → 1 ≤ hops x v
  -- indirect passing: the cells that tile t passes on along q are the union of the merged send sets,
  -- and the messages due at t are the unions of its merged receive sets, one for each spread dimension with a count above 1
  pub sends_merged : (t q c : ℕ) → t < box_tiles x → q < x.spread → c < cells x
      → In c (passed x t q) ↔ Joined x (λ e. MergedSendSet x (tile_place x t) q e (cell_place x c))
  pub dues_merged : (t m : ℕ) → t < box_tiles x → In m (dues_of (box_plan Indirect x) t)
      → (q : ℕ) × (q < x.spread) × (1 < processor_count x q)
      × ((c : ℕ) → c < cells x
      → In c (held_by (box_plan Indirect x) m) ↔ Joined x (λ e. MergedReceiveSet x (tile_place x t) q e (cell_place x c)))
  pub received_merged : (t q c : ℕ) → t < box_tiles x → q < x.spread → 1 < processor_count x q → c < cells x
      → Joined x (λ e. MergedReceiveSet x (tile_place x t) q e (cell_place x c))
      → (m : ℕ) × In m (dues_of (box_plan Indirect x) t) × In c (held_by (box_plan Indirect x) m)

-- ---- inequalities that document 01 does not follow, as tests: their cells, for the examples in Rows

-- Theorem 3, which shifts the unspread dimensions too; `stays` is its test of the place moved
unfoldable pub theorem3 : (Nest → ℕ → ℕ → Bool) → Nest → ℕ → ℕ → List ℕ
theorem3 stays x t v =
    keep (λ c. some (λ e.
    stays x c e
    and every (λ j. leb (tile_place x t j * tile_length x j) (cell_place x c j + ahead x v j * component x e j)
    and ltb (cell_place x c j) (tile_place x t j * tile_length x j + (1 - ahead x v j) * (tile_length x j - component x e j))) x.spread
    and every (λ j. ltb j x.spread or leb (tile_place x t j * tile_length x j) (cell_place x c j + component x e j)
    and ltb (cell_place x c j + component x e j) (tile_place x t j * tile_length x j + tile_length x j)) x.dimensions) x.distances)
    (cells x)

-- C (i + d) ≤ c, as in Theorems 1 and 5; Theorem 3 itself prints C (i - d) ≤ c, which is `has_read`
unfoldable pub stays_ahead : Nest → ℕ → ℕ → Bool
stays_ahead x c e = every (λ j. ltb (cell_place x c j + component x e j) (length_of x j)) x.dimensions

-- the greatest and the least component j of all distances
unfoldable pub greatest : Nest → ℕ → ℕ → ℕ
greatest x zero j = 0
greatest x (suc e) j = max (greatest x e j) (component x e j)

unfoldable pub least : Nest → ℕ → ℕ → ℕ
least x zero j = 1024
least x (suc e) j = min (least x e j) (component x e j)

-- the widened set of Theorem 2
unfoldable pub widened : Nest → ℕ → ℕ → List ℕ
widened x t v =
    keep (λ c. some (stays_ahead x c) x.distances
    and every (λ j. leb (tile_place x t j * tile_length x j + ahead x v j * (tile_length x j - greatest x x.distances j)) (cell_place x c j)
    and ltb (cell_place x c j + (1 - ahead x v j) * least x x.distances j) (tile_place x t j * tile_length x j + tile_length x j))
    x.spread
    and every (λ j. ltb j x.spread or leb (tile_place x t j * tile_length x j) (cell_place x c j)
    and ltb (cell_place x c j) (tile_place x t j * tile_length x j + tile_length x j)) x.dimensions) (cells x)
