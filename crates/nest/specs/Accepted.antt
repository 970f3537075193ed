-- For contracts below the calls: no reader needs it.
-- What every accepted nest has, and all that the layers above use of it.
-- Follows from lines 2 to 8 of document 01, "Numbers a call gives", and 20 of document 02, W-209.
use Rattle.std.specs.Prelude.{ℕ, ◌≤◌, ◌<◌, ◌≡◌, true, leb}
use Rattle.base.specs.Tests.{some}
use Rattle.nest.specs.declared.Nest.{Nest}
use Rattle.nest.specs.Nest.{length_of, tile_length, processor_count, component, weight, side, bounded, earlier, slope, bound_offset, cells, processors}
use Rattle.nest.specs.Shape.{in_shape, tiles}

pub record Accepted (x : Nest) : Type 0 where
  pub dimensions_least : 2 ≤ x.dimensions
  pub dimensions_most : x.dimensions ≤ 4
  pub spread_least : 1 ≤ x.spread
  pub spread_low : x.spread < x.dimensions
  pub distances_least : 1 ≤ x.distances
  pub distances_most : x.distances ≤ 8
  pub bounds_most : x.bounds ≤ 4
  pub long : (j : ℕ) → j < x.dimensions → 1 ≤ length_of x j
  pub length_most : (j : ℕ) → length_of x j ≤ 1024
  pub tiled : (j : ℕ) → j < x.dimensions → 1 ≤ tile_length x j
  pub tile_most : (j : ℕ) → tile_length x j ≤ 1024
  pub manned : (j : ℕ) → j < x.spread → 1 ≤ processor_count x j
  pub near : (e j : ℕ) → e < x.distances → j < x.dimensions → component x e j ≤ tile_length x j
  pub component_most : (e j : ℕ) → component x e j ≤ 1024
  pub moves : (e : ℕ) → e < x.distances → some (λ j. leb 1 (component x e j)) x.dimensions ≡ true
  pub weight_most : (e : ℕ) → weight x e < 65536
  pub side_most : (k : ℕ) → side x k ≤ 1
  pub bounded_low : (k : ℕ) → k < x.bounds → bounded x k < x.dimensions
  pub earlier_low : (k : ℕ) → k < x.bounds → earlier x k < bounded x k
  pub slope_most : (k : ℕ) → slope x k ≤ 2
  pub offset_most : (k : ℕ) → bound_offset x k < 65536
  pub shift_most : x.shift < 32
  pub boundary_most : x.boundary < 4294967296
  pub cells_most : cells x ≤ 16384
  pub has_cell : some (in_shape x) (cells x) ≡ true
  pub tiles_most : tiles x ≤ 1024
  pub processors_most : processors x ≤ 64
