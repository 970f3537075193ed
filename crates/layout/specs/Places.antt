-- For contracts below the calls: no reader needs it.
-- What the functions below hand to each other: places as arrays of four, a processor's share of a dimension, the box of a tile's cells.
-- No sentence of document 01.
use Rattle.std.specs.Prelude.{ℕ, ◌+◌, ◌*◌, ◌-◌, ◌/◌, ◌%◌, ◌≤◌, ◌<◌, ◌≡◌, List, get_or}
use Rattle.base.specs.Tests.{product}
use Rattle.nest.specs.declared.Nest.{Nest}
use Rattle.nest.specs.Nest.{tile_length, cells, box_tiles}
use Rattle.nest.specs.Places.{place, cell_place, tile_place}
use Rattle.plan.specs.Box.{box_length, box_size}
use Rattle.layout.specs.declared.Cell.{Cell}
use Rattle.layout.specs.declared.Bounds.{Bounds}
use Rattle.layout.specs.declared.Share.{Share}

abbrev pub nth : List ℕ → ℕ → ℕ
nth l j = get_or l j 0

-- the array has the first n components of f
pub record Has (l : List ℕ) (f : ℕ → ℕ) (n : ℕ) : Type 0 where
  pub each : (j : ℕ) → j < n → get_or l j 0 ≡ f j

-- small products, and places that may stand one beyond the last
pub record Countable (N : List ℕ) (left : ℕ) : Type 0 where
  pub low : left ≤ 4
  pub positive : (j : ℕ) → j < left → 1 ≤ get_or N j 0
  pub few : product (nth N) left ≤ 16384

pub record Ranked (N i : List ℕ) (left : ℕ) : Type 0 where
  pub counts : Countable N left
  pub at_most : (j : ℕ) → j < left → get_or i j 0 ≤ get_or N j 0

pub record Places (N from : List ℕ) (left : ℕ) : Type 0 where
  pub low : left ≤ 4
  pub positive : (j : ℕ) → j < left → 1 ≤ get_or N j 0
  pub small : (j : ℕ) → j < left → get_or from j 0 + get_or N j 0 ≤ 4096

-- the place of n, counted from another place
pub record Placed (N from : List ℕ) (n left : ℕ) (r : List ℕ) : Type 0 where
  pub first : (j : ℕ) → j < left → get_or r j 0 ≡ get_or from j 0 + place (nth N) left n j
  pub rest : (j : ℕ) → left ≤ j → get_or r j 0 ≡ get_or from j 0

-- a place of the box of lengths N from another place
pub record Inside (N from : List ℕ) (left : ℕ) (at : List ℕ) : Type 0 where
  pub each : (j : ℕ) → j < left → get_or at j 0 < get_or from j 0 + get_or N j 0

-- the next place: that of the number one more
pub record Follows (N from : List ℕ) (left : ℕ) (at r : List ℕ) : Type 0 where
  pub next : (n : ℕ) → Placed N from n left at → Placed N from (n + 1) left r

-- a processor's share of the tiles along a dimension, as the report's DO loop has it, and its number over the dimensions before
pub record Shared (across stride processor : ℕ) (r : Share) : Type 0 where
  pub first : r.first ≡ processor % stride
  pub stride_is : r.stride ≡ stride
  pub tiles : r.tiles ≡ (across - 1 + stride - processor % stride) / stride
  pub rest : r.rest ≡ processor / stride

-- a cell's number with its place
pub record Located (x : Nest) (c : ℕ) (r : Cell) : Type 0 where
  pub low : c < cells x
  pub number : r.number ≡ c
  pub place : Has r.place (cell_place x c) x.dimensions

-- the box of a tile's cells
pub record Bounded (x : Nest) (b : Bounds) : Type 0 where
  pub low : b.tile < box_tiles x
  pub corner : Has b.corner (λ j. tile_place x b.tile j * tile_length x j) x.dimensions
  pub lengths : Has b.lengths (box_length x b.tile) x.dimensions
  pub size : b.size ≡ box_size x b.tile
