-- Bounds computed: the cells and tiles that they leave, and the numbers that reading gives.
use Prim.Native.Nat.{ℕ}
use mathlib.Core.Path.{◌≡◌, refl, ◌∙◌}
use mathlib.Core.List.{List, [], ◌∷◌, ◌++◌, map}
use lib.ListN.{replicate}
use Rattle.base.specs.Tests.{◌and◌, ◌or◌, not, pick, every, some, keep, those, tabulate, product}
use Rattle.base.specs.Numbers.{first_of}
use Rattle.nest.specs.Nest.{tile_count, cells, box_tiles, processors}
use Rattle.nest.specs.Places.{rank, place, cell_place, tile_at, box_tile_of}
use Rattle.nest.specs.Shape.{level, raised, meets, in_shape, exists, existing, tiles}
use Rattle.nest.specs.Reader.{of_kind, filled, nest_by, nest_of, ragged, blank, bound_fits, checked, may_stand, fits_at, well_formed, stray_record, no_length}
use Rattle.nest.specs.Reader.{bad_length, too_large, needlessly_wide, no_cell, same, beyond, faulty, bad_distance, reached, bad_tile, bad_spread}
use Rattle.nest.specs.Reader.{last_spread, bad_processors, too_many_tiles}
use Rattle.nest.specs.Recipes.{dimension, bound, distance, close}
use Rattle.nest.proofs.RowNumbers.{far}
use Rattle.nest.proofs.Quick.{told, quick_all}

-- four by four cells in tiles of two by two, and these bounds
abbrev pub square : List ℕ → List ℕ
square bounds = dimension 4 2 2 ++ dimension 4 2 0 ++ bounds ++ distance 1 0 0 ++ close

-- the second component at least, at most, the first; at most 2 less the first; at least the first less 1; from 2 on; at most -1
abbrev pub least : List ℕ
least = bound 0 1 0 1 0 0

abbrev most : List ℕ
most = bound 1 1 0 1 0 0

abbrev falling : List ℕ
falling = bound 1 1 0 255 2 0

abbrev band : List ℕ
band = bound 0 1 0 1 255 255

abbrev beyond_two : List ℕ
beyond_two = bound 0 1 0 0 2 0

abbrev pub nothing : List ℕ
nothing = bound 1 1 0 0 255 255

-- each bound alone and two together; the greatest and the least offset
pub cells_left : map (λ (b : List ℕ). keep (in_shape (nest_of (square b))) 16)
    (least ∷ most ∷ falling ∷ band ∷ beyond_two ∷ nothing ∷ (band ++ most) ∷ bound 1 1 0 1 255 127 ∷ bound 1 1 0 1 0 128 ∷ [])
    ≡ (0 ∷ 1 ∷ 2 ∷ 3 ∷ 5 ∷ 6 ∷ 7 ∷ 10 ∷ 11 ∷ 15 ∷ [])
    ∷ (0 ∷ 4 ∷ 5 ∷ 8 ∷ 9 ∷ 10 ∷ 12 ∷ 13 ∷ 14 ∷ 15 ∷ [])
    ∷ (0 ∷ 1 ∷ 2 ∷ 4 ∷ 5 ∷ 8 ∷ [])
    ∷ (0 ∷ 1 ∷ 2 ∷ 3 ∷ 4 ∷ 5 ∷ 6 ∷ 7 ∷ 9 ∷ 10 ∷ 11 ∷ 14 ∷ 15 ∷ [])
    ∷ (2 ∷ 3 ∷ 6 ∷ 7 ∷ 10 ∷ 11 ∷ 14 ∷ 15 ∷ [])
    ∷ []
    ∷ (0 ∷ 4 ∷ 5 ∷ 9 ∷ 10 ∷ 14 ∷ 15 ∷ [])
    ∷ (0 ∷ 1 ∷ 2 ∷ 3 ∷ 4 ∷ 5 ∷ 6 ∷ 7 ∷ 8 ∷ 9 ∷ 10 ∷ 11 ∷ 12 ∷ 13 ∷ 14 ∷ 15 ∷ [])
    ∷ []
    ∷ []
unfolding ◌and◌ pick every keep those tabulate place cell_place level raised meets in_shape of_kind filled nest_by nest_of
cells_left = refl

-- only tiles that hold a cell are tiles
pub tiles_left : (map (λ (b : List ℕ). existing (nest_of (square b))) (least ∷ falling ∷ beyond_two ∷ [])
    ≡ (0 ∷ 1 ∷ 3 ∷ []) ∷ (0 ∷ 1 ∷ 2 ∷ []) ∷ (1 ∷ 3 ∷ []) ∷ [])
    × (map (λ (b : List ℕ). tiles (nest_of (square b))) (least ∷ falling ∷ beyond_two ∷ nothing ∷ []) ≡ 3 ∷ 3 ∷ 2 ∷ 0 ∷ [])
unfolding ◌and◌ ◌or◌ pick every some keep those tabulate product rank place cell_place tile_at box_tile_of tile_count cells box_tiles level raised meets in_shape
    exists existing tiles of_kind filled nest_by nest_of
tiles_left = (refl, refl)

-- bounds that leave cells, four of them, all the same; five; each fault of a bound: its side, its dimension, its earlier dimension, equal
-- ones, its slope, bytes 5, 8 and 15; before the dimensions, between distances, behind the close
pub bounds_told : told
    (square least ∷ square (least ++ most ++ band ++ falling) ∷ square (least ++ least ++ least ++ least) ∷ square (least ++ least ++ least ++ least ++ least)
    ∷ square (bound 2 1 0 1 0 0) ∷ square (bound 0 2 0 1 0 0) ∷ square (bound 0 1 1 1 0 0) ∷ square (bound 0 0 0 0 0 0)
    ∷ square (bound 0 1 0 2 0 0) ∷ square (bound 0 1 0 254 0 0)
    ∷ square (5 ∷ 0 ∷ 1 ∷ 0 ∷ 1 ∷ 1 ∷ replicate 10 0) ∷ square (5 ∷ 0 ∷ 1 ∷ 0 ∷ 1 ∷ 0 ∷ 0 ∷ 0 ∷ 1 ∷ replicate 7 0)
    ∷ square (5 ∷ 0 ∷ 1 ∷ 0 ∷ 1 ∷ replicate 10 0 ++ (1 ∷ []))
    ∷ (least ++ square []) ∷ square (distance 0 1 0 ++ least) ∷ (square [] ++ least) ∷ [])
    ≡ 0 ∷ 0 ∷ 0 ∷ 2 ∷ 2 ∷ 2 ∷ 2 ∷ 2 ∷ 2 ∷ 2 ∷ 2 ∷ 2 ∷ 2 ∷ 2 ∷ 2 ∷ 2 ∷ []
unfolding first_of ◌and◌ ◌or◌ not pick every some keep those tabulate product rank place cell_place tile_at box_tile_of tile_count cells box_tiles processors level
    raised meets in_shape exists existing tiles of_kind filled nest_by nest_of ragged blank bound_fits checked may_stand fits_at well_formed stray_record no_length
    bad_length too_large needlessly_wide no_cell same beyond faulty bad_distance reached bad_tile bad_spread last_spread bad_processors too_many_tiles
bounds_told = quick_all _ ∙ refl

-- 20 where no cell is left, by one bound or by two: before 5 for a distance of zeros, behind 18 and behind 4
pub shape_between : told
    (square nothing ∷ square (most ++ bound 0 1 0 1 1 0) ∷ square (nothing ++ distance 0 0 0) ∷ square (nothing ++ far 1 0 0)
    ∷ (dimension 200 2 2 ++ dimension 200 2 0 ++ nothing ++ distance 1 0 0 ++ close) ∷ square (least ++ distance 0 0 0) ∷ [])
    ≡ 20 ∷ 20 ∷ 20 ∷ 18 ∷ 4 ∷ 5 ∷ []
unfolding first_of ◌and◌ ◌or◌ not pick every some keep those tabulate product rank place cell_place tile_at box_tile_of tile_count cells box_tiles processors level
    raised meets in_shape exists existing tiles of_kind filled nest_by nest_of ragged blank bound_fits checked may_stand fits_at well_formed stray_record no_length
    bad_length too_large needlessly_wide no_cell same beyond faulty bad_distance reached bad_tile bad_spread last_spread bad_processors too_many_tiles
shape_between = quick_all _ ∙ refl
