-- Read this.
-- The shape of a nest: the cells of the box that every bound leaves, and the tiles of the box that hold one.
-- Renders document 02, W-209: the component is at least, or at most, slope × the earlier component + offset; tiles that hold a cell.
use Rattle.std.specs.Prelude.{ℕ, ◌+◌, ◌*◌, Bool, List, length, eqb, leb}
use Rattle.base.specs.Tests.{◌and◌, pick, every, some, keep}
use Rattle.nest.specs.declared.Nest.{Nest}
use Rattle.nest.specs.Nest.{side, bounded, earlier, slope, bound_offset, cells, box_tiles}
use Rattle.nest.specs.Places.{cell_place, box_tile_of}

-- bound k at place i: slope × the earlier component + offset, and the component bounded, each plus the earlier component and 32,768,
-- so that no number is negative
unfoldable pub level : Nest → ℕ → (ℕ → ℕ) → ℕ
level x k i = slope x k * i (earlier x k) + bound_offset x k

unfoldable pub raised : Nest → ℕ → (ℕ → ℕ) → ℕ
raised x k i = i (bounded x k) + i (earlier x k) + 32768

-- a lower bound is not above the component, an upper bound not below it
unfoldable pub meets : Nest → (ℕ → ℕ) → ℕ → Bool
meets x i k = pick (eqb (side x k) 0) (leb (level x k i) (raised x k i)) (leb (raised x k i) (level x k i))

-- cell c of the box is in the shape: it meets every bound
unfoldable pub in_shape : Nest → ℕ → Bool
in_shape x c = every (meets x (cell_place x c)) x.bounds

-- tile u of the box holds a cell of the shape
unfoldable pub exists : Nest → ℕ → Bool
exists x u = some (λ c. in_shape x c and eqb (box_tile_of x c) u) (cells x)

-- the box's numbers of the tiles that hold one, in index order; a tile's own number is its place in this list
unfoldable pub existing : Nest → List ℕ
existing x = keep (exists x) (box_tiles x)

unfoldable pub tiles : Nest → ℕ
tiles x = length (existing x)
