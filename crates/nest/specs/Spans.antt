-- For contracts below the calls: no reader needs it.
-- A row: the cells of the box that differ in the last dimension alone. The shape cuts each row to one span; code goes by rows.
-- Serves document 02, W-209; which cells are in the shape, Shape says.
use Rattle.std.specs.Prelude.{ℕ, ◌+◌, ◌*◌, ◌-◌, ◌/◌, ◌≤◌, ◌<◌, ◌≡◌, ◌⊎◌, Bool, List, length, get_or, eqb, ltb, leb}
use Rattle.base.specs.Tests.{◌and◌, ◌or◌, pick, every, some}
use Rattle.nest.specs.declared.Nest.{Nest}
use Rattle.nest.specs.declared.Interval.{Interval}
use Rattle.nest.specs.Nest.{length_of, tile_length, processor_count, bounded, earlier, slope, bound_offset}
use Rattle.nest.specs.Places.{place, cell_place, box_tile_of}
use Rattle.nest.specs.Shape.{meets, in_shape}

-- what lines 1 to 3 leave of the numbers that a row's span is made of
pub record Framed (x : Nest) : Type 0 where
  pub dimensions_least : 1 ≤ x.dimensions
  pub dimensions_most : x.dimensions ≤ 4
  pub bounds_most : x.bounds ≤ 4
  pub long : (j : ℕ) → j < x.dimensions → 1 ≤ length_of x j
  pub length_most : (j : ℕ) → j < x.dimensions → length_of x j ≤ 1024
  pub length_wide : (j : ℕ) → length_of x j < 65536
  pub tile_wide : (j : ℕ) → tile_length x j < 65536
  pub bounded_low : (k : ℕ) → k < x.bounds → bounded x k < x.dimensions
  pub earlier_low : (k : ℕ) → k < x.bounds → earlier x k < bounded x k
  pub slope_most : (k : ℕ) → slope x k ≤ 2
  pub offset_most : (k : ℕ) → bound_offset x k < 65536

-- what line 6 leaves of the tile lengths
abbrev pub Tiled : Nest → Type 0
Tiled x = (j : ℕ) → j < x.dimensions → 1 ≤ tile_length x j

-- what line 2 leaves of all numbers that lines 3 to 8 are tested on
pub record InRange (x : Nest) : Type 0 where
  pub dimensions_least : 1 ≤ x.dimensions
  pub dimensions_most : x.dimensions ≤ 4
  pub spread_most : x.spread ≤ 4
  pub distances_most : x.distances ≤ 8
  pub bounds_most : x.bounds ≤ 4
  pub length_wide : (j : ℕ) → length_of x j < 65536
  pub tile_wide : (j : ℕ) → tile_length x j < 65536
  pub count_wide : (j : ℕ) → processor_count x j < 65536
  pub bounded_low : (k : ℕ) → k < x.bounds → bounded x k < x.dimensions
  pub earlier_low : (k : ℕ) → k < x.bounds → earlier x k < bounded x k
  pub slope_most : (k : ℕ) → slope x k ≤ 2
  pub offset_most : (k : ℕ) → bound_offset x k < 65536

abbrev pub last : Nest → ℕ
last x = x.dimensions - 1

-- the place with component a in the last dimension
unfoldable pub row_place : Nest → (ℕ → ℕ) → ℕ → ℕ → ℕ
row_place x i a j = pick (eqb j (last x)) a (i j)

-- it meets the first n bounds; all of them
unfoldable pub meets_first : Nest → (ℕ → ℕ) → ℕ → ℕ → Bool
meets_first x i n a = every (meets x (row_place x i a)) n

abbrev pub in_row : Nest → (ℕ → ℕ) → ℕ → Bool
in_row x i a = meets_first x i x.bounds a

abbrev pub within : Interval → ℕ → Bool
within s a = leb s.from a and ltb a s.to

-- a place's components as an array has them
abbrev pub spot : List ℕ → ℕ → ℕ
spot at j = get_or at j 0

abbrev pub Narrow : Nest → List ℕ → Type 0
Narrow x at = (j : ℕ) → j < x.dimensions → spot at j < 65536

abbrev pub InBox : Nest → List ℕ → Type 0
InBox x at = (j : ℕ) → j < x.dimensions → spot at j < length_of x j

-- ---- rank and place by recursion over the dimensions left

-- lengths of the first dimensions, as a recursion over them has them
pub record HasLengths (N : List ℕ) (left : ℕ) : Type 0 where
  pub low : left ≤ 4
  pub positive : (j : ℕ) → j < left → 1 ≤ get_or N j 0

-- the place of n in the first dimensions; the others as before
pub record PlaceWritten (N before : List ℕ) (n left : ℕ) (after : List ℕ) : Type 0 where
  pub first : (j : ℕ) → j < left → get_or after j 0 ≡ place (spot N) left n j
  pub others : (j : ℕ) → left ≤ j → get_or after j 0 ≡ get_or before j 0

-- tiles along dimension j, and the tile of a component there
abbrev pub tiles_along : List ℕ → List ℕ → ℕ → ℕ
tiles_along N k j = (get_or N j 0 - 1) / get_or k j 0 + 1

abbrev pub tile_on : List ℕ → List ℕ → ℕ → ℕ
tile_on k at j = spot at j / get_or k j 0

-- a place of a cell, in the first dimensions
pub record Tileable (N k at : List ℕ) (left : ℕ) : Type 0 where
  pub low : left ≤ 4
  pub length_most : (j : ℕ) → j < left → get_or N j 0 ≤ 1024
  pub tiled : (j : ℕ) → j < left → 1 ≤ get_or k j 0
  pub tile_wide : (j : ℕ) → j < left → get_or k j 0 < 65536
  pub inside : (j : ℕ) → j < left → spot at j < get_or N j 0

-- of the first span's cells the second has those that meet bound k
pub record Cuts (x : Nest) (at : List ℕ) (k : ℕ) (s r : Interval) : Type 0 where
  pub most : r.to ≤ s.to
  pub has : (a : ℕ) → within r a ≡ (within s a and meets x (row_place x (spot at) a) k)

-- the span has the cells of the row through `at` that are in the shape
pub record Spans (x : Nest) (at : List ℕ) (s : Interval) : Type 0 where
  pub most : s.to ≤ length_of x (last x)
  pub has : (a : ℕ) → a < length_of x (last x) → in_row x (spot at) a ≡ within s a

-- the place of the first cell of row q
pub record Row (x : Nest) (q : ℕ) (at : List ℕ) : Type 0 where
  pub first : (j : ℕ) → j < x.dimensions → spot at j ≡ cell_place x (q * length_of x (last x)) j
  pub narrow : Narrow x at

-- the places from one up to another are marked, the others as before
pub record Marked (before : List ℕ) (low high : ℕ) (after : List ℕ) : Type 0 where
  pub long : length after ≡ length before
  pub marks : (u : ℕ) → low ≤ u → u < high → get_or after u 0 ≡ 1
  pub others : (u : ℕ) → (u < low) ⊎ (high ≤ u) → get_or after u 0 ≡ get_or before u 0

-- cell c is in the shape and in tile u of the box
abbrev pub holds : Nest → ℕ → ℕ → Bool
holds x u c = in_shape x c and eqb (box_tile_of x c) u

-- the tiles that hold a cell of row q are marked, the others as before
pub record RowMarked (x : Nest) (q : ℕ) (before after : List ℕ) : Type 0 where
  pub long : length after ≡ length before
  pub marks : (u : ℕ) → ltb 0 (get_or after u 0)
      ≡ (ltb 0 (get_or before u 0) or some (λ a. holds x u (q * length_of x (last x) + a)) (length_of x (last x)))
