-- For contracts below the calls: no reader needs it.
-- A row of a tile in its processor's part: that its cells and what they read are kept, where they stand there, and how far back each distance reads.
-- No sentence of document 01.
use Rattle.std.specs.Prelude.{◌≡◌, ℕ, ◌+◌, ◌-◌, ◌<◌, ◌≤◌, true, List, length, slice_index}
use Rattle.base.specs.Tests.{one, tabulate}
use Rattle.base.specs.Lists.{In, store_all}
use Rattle.nest.specs.declared.Nest.{Nest}
use Rattle.nest.specs.Nest.{cells, processors, box_tiles}
use Rattle.nest.specs.Places.{cell_place}
use Rattle.nest.specs.Shape.{in_shape}
use Rattle.nest.specs.Spans.{last}
use Rattle.plan.specs.Geometry.{read_at}
use Rattle.plan.specs.Shaped.{reads_shape, shaped_cells, shaped_value}
use Rattle.layout.specs.CellRows.{row_of}
use Rattle.tables.specs.declared.Table.{Table}
use Rattle.tables.specs.Given.{plan_of_table}
use Rattle.values.specs.shaped_values.Rows.{inside_only, Along, between, ReadsRuns, mixed_along, Readable}
use Rattle.network.specs.Own.{owns, keeps, own_cells, kept_cells}
use Rattle.rank_index.specs.Ranks.{marked_at, marked_cells, rank_at, spread_out, Counted}
use Rattle.part_calls.specs.declared.tile.Row.{Row}

-- ---- what is kept

-- a mark for each cell of the box, and the counts by which ranks are found
pub record Marks (x : Nest) (marks counts : List ℕ) : Type 0 where
  pub long : length marks ≡ cells x
  pub counted : Counted marks counts

-- cell c is kept, and so is each cell of the shape that it reads
pub record Worked (x : Nest) (kept : List ℕ) (c : ℕ) : Type 0 where
  pub here : marked_at kept c ≡ true
  pub reads : (e : ℕ) → e < x.distances → reads_shape x c e ≡ true → marked_at kept (read_at x c e) ≡ true

-- if it is in the shape, cell c is that, and one of the processor's own
abbrev pub WorkedIn : Nest → List ℕ → List ℕ → ℕ → Type 0
WorkedIn x kept owned c = in_shape x c ≡ true → Worked x kept c × (marked_at owned c ≡ true)

-- ---- how far back

-- the cells from c on, whose component is a, `few` of them, are kept, and stand in the part from `first` on
pub record KeptRow (marks counts : List ℕ) (first c a few : ℕ) : Type 0 where
  pub small : length marks ≤ 16384
  pub counted : Counted marks counts
  pub low : c + few ≤ length marks
  pub narrow : a + few ≤ 1024
  pub each : (y : ℕ) → y < few → marked_at marks (c + y) ≡ true
  pub place : first ≡ rank_at marks c

-- where their components are from `low` on, below `high`, the cell so far back is kept; and in the part it is `near` back
pub record KeptBehind (marks : List ℕ) (c a few low high back : ℕ) : Type 0 where
  pub at : (y : ℕ) → y < few → between low high (a + y) ≡ true → (back ≤ c + y) × (marked_at marks (c + y - back) ≡ true)

pub record Behind (marks : List ℕ) (c a few low high back near : ℕ) : Type 0 where
  pub is : (y : ℕ) → y < few → between low high (a + y) ≡ true → near + rank_at marks (c + y - back) ≡ rank_at marks c + y

pub record Behinds (marks : List ℕ) (c a few n : ℕ) (firsts ends back near : List ℕ) : Type 0 where
  pub each : (e : ℕ) → e < n → Behind marks c a few (slice_index firsts e) (slice_index ends e) (slice_index back e) (slice_index near e)

-- ---- a row

-- `few` cells of the row of a place from c on, whose component is a
pub record WorkedRow (x : Nest) (kept at : List ℕ) (c a few : ℕ) : Type 0 where
  pub low : c + few ≤ cells x
  pub narrow : a + few ≤ 1024
  pub along : (y : ℕ) → y < few → Along x at (c + y) × (a + y ≡ cell_place x (c + y) (last x))
  pub worked : (y : ℕ) → y < few → Worked x kept (c + y)

-- in the part, their source from `from` on
pub record RowAt (x : Nest) (kept back at : List ℕ) (from c a few : ℕ) (r : Row) : Type 0 where
  pub first : r.first ≡ rank_at kept c
  pub source : r.from ≡ from
  pub component : r.component ≡ a
  pub all : r.few ≡ few
  pub reads : ReadsRuns x at r.firsts r.ends
  pub behinds : Behinds kept c a few x.distances r.firsts r.ends back r.backs

-- stored in the part by r, the words of the shape's cells in a row of `width` cells from c on are those of the sweep in a memory of all cells
pub record StoresRow (x : Nest) (kept owned : List ℕ) (c width : ℕ) (r : Row) : Type 0 where
  pub readable : (sources words : ℕ) → sources ≡ length (marked_cells owned) → words ≡ length (marked_cells kept)
      → Readable x.distances r.firsts r.ends r.backs x.weights x.boundary x.shift r.from r.first r.component r.few
      sources words
  pub stored : (source memory memory' : List ℕ) → length source ≡ length (marked_cells owned) → length memory ≡ length (marked_cells kept)
      → memory' ≡ store_all (mixed_along x.distances r.firsts r.ends r.backs x.weights x.boundary x.shift source r.from r.first
      r.component) memory (row_of r.first r.few)
      → spread_out kept memory' ≡ store_all (inside_only x (shaped_value x (spread_out owned source))) (spread_out kept memory) (row_of c width)

-- ---- a tile

-- tile u of the box: its cells are the processor's own, they and what they read are kept; source and part have a word for each
pub record GivenBox (x : Nest) (kept counts owned tally : List ℕ) (sources words u : ℕ) : Type 0 where
  pub low : u < box_tiles x
  pub kept_marks : Marks x kept counts
  pub own_marks : Marks x owned tally
  pub source : sources ≡ length (marked_cells owned)
  pub memory : words ≡ length (marked_cells kept)
  pub worked : (c : ℕ) → In c (shaped_cells x u) → Worked x kept c × (marked_at owned c ≡ true)

-- tile u of processor b: b's kept cells and its own marked and counted, source and part with a word for each
pub record GivenTile (t : Table) (kept counts owned tally : List ℕ) (sources words b u : ℕ) : Type 0 where
  pub processor : b < processors t.layout.nest
  pub low : u < (plan_of_table t).tiles
  pub mine : (plan_of_table t).processor_of u ≡ b
  pub kept_are : kept ≡ tabulate (λ c. one (keeps (plan_of_table t) b c)) (cells t.layout.nest)
  pub own_are : owned ≡ tabulate (λ c. one (owns (plan_of_table t) b c)) (cells t.layout.nest)
  pub counted : Counted kept counts
  pub own_counted : Counted owned tally
  pub source : sources ≡ length (own_cells (plan_of_table t) b)
  pub memory : words ≡ length (kept_cells (plan_of_table t) b)
