-- Read this.
-- A nest: what its fields mean, and how many cells, tiles and processors its box has.
-- Renders document 01, "The recipe" and "Cells, tiles and boards"; of document 02, W-203, W-205, and W-209's bounds.
use Rattle.std.specs.Prelude.{ℕ, ◌+◌, ◌*◌, ◌-◌, ◌/◌, get_or}
use Rattle.base.specs.Tests.{product}
use Rattle.nest.specs.declared.Nest.{Nest}

-- by dimension, counted from 0
abbrev pub length_of : Nest → ℕ → ℕ
length_of x j = get_or x.lengths j 0

abbrev pub tile_length : Nest → ℕ → ℕ
tile_length x j = get_or x.tiling j 0

abbrev pub processor_count : Nest → ℕ → ℕ
processor_count x j = get_or x.counts j 0

-- component j of distance e, and its weight
abbrev pub component : Nest → ℕ → ℕ → ℕ
component x e j = get_or x.components (4 * e + j) 0

abbrev pub weight : Nest → ℕ → ℕ
weight x e = get_or x.weights e 0

-- bound k: 0 for a lower or 1 for an upper one, the dimension bounded, an earlier dimension
abbrev pub side : Nest → ℕ → ℕ
side x k = get_or x.sides k 0

abbrev pub bounded : Nest → ℕ → ℕ
bounded x k = get_or x.bounded k 0

abbrev pub earlier : Nest → ℕ → ℕ
earlier x k = get_or x.earlier k 0

-- its slope and its offset, which may be negative, as slope + 1 and offset + 32,768, which are not
abbrev pub slope : Nest → ℕ → ℕ
slope x k = get_or x.slopes k 0

abbrev pub bound_offset : Nest → ℕ → ℕ
bound_offset x k = get_or x.offsets k 0

-- tiles of the box along dimension j: up to the one that holds the last cell
unfoldable pub tile_count : Nest → ℕ → ℕ
tile_count x j = (length_of x j - 1) / tile_length x j + 1

-- cells, tiles and processors of the box
unfoldable pub cells : Nest → ℕ
cells x = product (length_of x) x.dimensions

unfoldable pub box_tiles : Nest → ℕ
box_tiles x = product (tile_count x) x.dimensions

unfoldable pub processors : Nest → ℕ
processors x = product (processor_count x) x.spread
