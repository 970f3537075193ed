-- Read this.
-- Cells and tiles of the box as numbers in index order, their places, and the tile of a cell.
-- Renders document 01, "Cells, tiles and boards". A place is a function from the dimension to the component.
use Rattle.std.specs.Prelude.{ℕ, zero, suc, ◌+◌, ◌*◌, ◌/◌, ◌%◌, eqb}
use Rattle.base.specs.Tests.{pick}
use Rattle.nest.specs.declared.Nest.{Nest}
use Rattle.nest.specs.Nest.{length_of, tile_length, tile_count}

-- the place's number in index order, built one dimension at a time; N has each dimension's length
unfoldable pub rank : (ℕ → ℕ) → (ℕ → ℕ) → ℕ → ℕ
rank N i zero = 0
rank N i (suc l) = rank N i l * N l + i l

-- its inverse: component j of number c
unfoldable pub place : (ℕ → ℕ) → ℕ → ℕ → ℕ → ℕ
place N zero c j = 0
place N (suc l) c j = pick (eqb j l) (c % N l) (place N l (c / N l) j)

unfoldable pub cell_at : Nest → (ℕ → ℕ) → ℕ
cell_at x i = rank (length_of x) i x.dimensions

unfoldable pub cell_place : Nest → ℕ → ℕ → ℕ
cell_place x c = place (length_of x) x.dimensions c

-- tile numbers of the box
unfoldable pub tile_at : Nest → (ℕ → ℕ) → ℕ
tile_at x u = rank (tile_count x) u x.dimensions

unfoldable pub tile_place : Nest → ℕ → ℕ → ℕ
tile_place x t = place (tile_count x) x.dimensions t

-- in each dimension the quotient by the tile length
unfoldable pub box_tile_of : Nest → ℕ → ℕ
box_tile_of x c = tile_at x (λ j. cell_place x c j / tile_length x j)
