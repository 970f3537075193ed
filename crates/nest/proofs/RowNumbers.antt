-- The numbers that reading gives for document 01's recipes A to H, for counts of processors and for distances of both kinds, computed.
use Prim.Native.Nat.{ℕ, ◌/◌, ◌%◌}
use mathlib.Core.Path.{◌≡◌, refl, ◌∙◌}
use mathlib.Core.List.{List, [], ◌∷◌, ◌++◌, map}
use lib.ListN.{replicate}
use Rattle.base.specs.Tests.{◌and◌, ◌or◌, not, pick, every, some, keep, those, tabulate, product}
use Rattle.base.specs.Numbers.{first_of}
use Rattle.nest.specs.Nest.{tile_count, cells, box_tiles, processors}
use Rattle.nest.specs.Places.{rank, place, cell_place, tile_at, box_tile_of}
use Rattle.nest.specs.Shape.{level, raised, meets, in_shape, exists, existing, tiles}
use Rattle.nest.specs.Reader.{of_kind, filled, nest_by, nest_of, ragged, blank, bound_fits, checked, may_stand, fits_at, well_formed, stray_record, no_length}
use Rattle.nest.specs.Reader.{bad_length, too_large, needlessly_wide, no_cell, same, beyond, faulty, bad_distance, reached, bad_tile, bad_spread}
use Rattle.nest.specs.Reader.{last_spread, bad_processors, too_many_tiles, read_lines}
use Rattle.nest.specs.Recipes.{dimension, distance, close, row_a, row_b, row_c, row_d, row_e, row_f, row_g, row_h, row_later}
use Rattle.nest.proofs.Quick.{told, quick, quick_all}

pub numbers : told (row_a ∷ row_b ∷ row_c ∷ row_d ∷ row_e ∷ row_f ∷ row_g ∷ row_h ∷ row_later ∷ [])
    ≡ 0 ∷ 0 ∷ 0 ∷ 0 ∷ 0 ∷ 0 ∷ 0 ∷ 0 ∷ 0 ∷ []
unfolding first_of ◌and◌ ◌or◌ not pick every some keep those tabulate product rank place cell_place tile_at box_tile_of tile_count cells box_tiles processors level
    raised meets in_shape exists existing tiles of_kind filled nest_by nest_of ragged blank bound_fits checked may_stand fits_at well_formed stray_record no_length
    bad_length too_large needlessly_wide no_cell same beyond faulty bad_distance reached bad_tile bad_spread last_spread bad_processors too_many_tiles
numbers = quick_all _ ∙ refl

-- two faults, a distance of zeros and a tile length 0: the first line counts
pub first_counts : first_of (read_lines (dimension 4 0 2 ++ dimension 1 1 0 ++ distance 0 0 0 ++ close)) ≡ 5
unfolding first_of ◌and◌ ◌or◌ not pick every some keep those tabulate product rank place cell_place tile_at box_tile_of tile_count cells box_tiles processors level
    raised meets in_shape exists existing tiles of_kind filled nest_by nest_of ragged blank bound_fits checked may_stand fits_at well_formed stray_record no_length
    bad_length too_large needlessly_wide no_cell same beyond faulty bad_distance reached bad_tile bad_spread last_spread bad_processors too_many_tiles
first_counts = quick _ ∙ refl

-- row B's distance is (2,1): tiles of 2 by 1 hold it, tiles one shorter in either dimension do not
pub reach_counts : told
    ((dimension 8 2 2 ++ dimension 8 1 0 ++ distance 2 1 0 ++ close)
    ∷ (dimension 8 1 2 ++ dimension 8 1 0 ++ distance 2 1 0 ++ close)
    ∷ (dimension 8 2 2 ++ dimension 8 1 0 ++ distance 2 2 0 ++ close) ∷ [])
    ≡ 0 ∷ 6 ∷ 6 ∷ []
unfolding first_of ◌and◌ ◌or◌ not pick every some keep those tabulate product rank place cell_place tile_at box_tile_of tile_count cells box_tiles processors level
    raised meets in_shape exists existing tiles of_kind filled nest_by nest_of ragged blank bound_fits checked may_stand fits_at well_formed stray_record no_length
    bad_length too_large needlessly_wide no_cell same beyond faulty bad_distance reached bad_tile bad_spread last_spread bad_processors too_many_tiles
reach_counts = quick_all _ ∙ refl

-- the counts of two dimensions of a length, the first of a tile length, and of four
abbrev twos : ℕ → ℕ → ℕ → ℕ → List ℕ
twos n k p q = dimension n k p ++ dimension n 1 q ++ distance 1 0 0 ++ close

abbrev fours : ℕ → ℕ → ℕ → ℕ → List ℕ
fours p q r s = dimension 4 2 p ++ dimension 2 1 q ++ dimension 2 1 r ++ dimension 2 1 s ++ distance 1 0 0 ++ close

pub counts_told : told
    (twos 4 2 0 0 ∷ twos 4 2 2 2 ∷ twos 4 2 65 0 ∷ twos 4 2 64 0
    ∷ fours 2 0 2 0 ∷ fours 2 0 0 2 ∷ fours 2 2 0 2 ∷ fours 2 2 2 2 ∷ fours 8 4 4 0 ∷ fours 4 4 4 0 ∷ [])
    ≡ 16 ∷ 17 ∷ 7 ∷ 0 ∷ 16 ∷ 16 ∷ 16 ∷ 17 ∷ 7 ∷ 0 ∷ []
unfolding first_of ◌and◌ ◌or◌ not pick every some keep those tabulate product rank place cell_place tile_at box_tile_of tile_count cells box_tiles processors level
    raised meets in_shape exists existing tiles of_kind filled nest_by nest_of ragged blank bound_fits checked may_stand fits_at well_formed stray_record no_length
    bad_length too_large needlessly_wide no_cell same beyond faulty bad_distance reached bad_tile bad_spread last_spread bad_processors too_many_tiles
counts_told = quick_all _ ∙ refl

-- a count of 1 is a count like any other: in one spread dimension, first, middle or last, or in all; 16, 17 and the product stay
pub ones_told : told
    (twos 4 2 1 0 ∷ fours 1 6 0 0 ∷ fours 1 2 2 0 ∷ fours 2 1 2 0 ∷ fours 2 2 1 0 ∷ fours 1 1 1 0 ∷ fours 1 64 1 0 ∷ [])
    ≡ 0 ∷ 0 ∷ 0 ∷ 0 ∷ 0 ∷ 0 ∷ 0 ∷ []
unfolding first_of ◌and◌ ◌or◌ not pick every some keep those tabulate product rank place cell_place tile_at box_tile_of tile_count cells box_tiles processors level
    raised meets in_shape exists existing tiles of_kind filled nest_by nest_of ragged blank bound_fits checked may_stand fits_at well_formed stray_record no_length
    bad_length too_large needlessly_wide no_cell same beyond faulty bad_distance reached bad_tile bad_spread last_spread bad_processors too_many_tiles
ones_told = quick_all _ ∙ refl

pub ones_refused : told
    (twos 4 2 0 1 ∷ twos 4 2 1 1 ∷ fours 1 0 1 0 ∷ fours 1 1 1 1 ∷ fours 1 65 0 0 ∷ fours 65 1 1 0 ∷ fours 1 8 9 0 ∷ [])
    ≡ 16 ∷ 17 ∷ 16 ∷ 17 ∷ 7 ∷ 7 ∷ 7 ∷ []
unfolding first_of ◌and◌ ◌or◌ not pick every some keep those tabulate product rank place cell_place tile_at box_tile_of tile_count cells box_tiles processors level
    raised meets in_shape exists existing tiles of_kind filled nest_by nest_of ragged blank bound_fits checked may_stand fits_at well_formed stray_record no_length
    bad_length too_large needlessly_wide no_cell same beyond faulty bad_distance reached bad_tile bad_spread last_spread bad_processors too_many_tiles
ones_refused = quick_all _ ∙ refl

-- a tile length 0 counts before each of them, and each of them before 2,048 tiles
pub counts_between : told
    (twos 4 0 0 1 ∷ twos 4 0 1 1 ∷ twos 4 0 65 0 ∷ twos 64 2 0 1 ∷ twos 64 2 1 1 ∷ twos 64 2 65 0 ∷ twos 64 2 1 0 ∷ [])
    ≡ 6 ∷ 6 ∷ 6 ∷ 16 ∷ 17 ∷ 7 ∷ 8 ∷ []
unfolding first_of ◌and◌ ◌or◌ not pick every some keep those tabulate product rank place cell_place tile_at box_tile_of tile_count cells box_tiles processors level
    raised meets in_shape exists existing tiles of_kind filled nest_by nest_of ragged blank bound_fits checked may_stand fits_at well_formed stray_record no_length
    bad_length too_large needlessly_wide no_cell same beyond faulty bad_distance reached bad_tile bad_spread last_spread bad_processors too_many_tiles
counts_between = quick_all _ ∙ refl

-- a long dimension on two processors, a distance of kind 4 and weight 1, a channel of 600 cells with tiles of 400
abbrev pub long : ℕ → ℕ → List ℕ
long n k = 1 ∷ 0 ∷ n % 256 ∷ n / 256 ∷ k % 256 ∷ k / 256 ∷ 2 ∷ replicate 9 0

abbrev pub far : ℕ → ℕ → ℕ → List ℕ
far d1 d2 d3 = 4 ∷ 0 ∷ d1 % 256 ∷ d1 / 256 ∷ d2 % 256 ∷ d2 / 256 ∷ d3 % 256 ∷ d3 / 256 ∷ 0 ∷ 0 ∷ 1 ∷ replicate 5 0

abbrev pub channel : List ℕ → List ℕ
channel distances = long 600 400 ++ dimension 1 2 0 ++ distances ++ close

-- both kinds in turn
abbrev eight : List ℕ
eight = far 300 0 0 ++ distance 1 0 0 ++ far 256 1 0 ++ distance 1 1 0 ++ far 301 0 0 ++ distance 2 0 0 ++ far 302 0 0 ++ distance 3 0 0

-- one dimension of 1,024 cells, one tile
abbrev most : ℕ → List ℕ
most d = long 1024 1024 ++ dimension 16 2 0 ++ far d 0 0 ++ close

pub far_read : ((nest_of (channel (distance 1 0 0 ++ far 300 1 0))).components ≡ 1 ∷ 0 ∷ 0 ∷ 0 ∷ 300 ∷ 1 ∷ 0 ∷ 0 ∷ replicate 24 0)
    × ((nest_of (channel (distance 1 0 0 ++ far 300 1 0))).weights ≡ 1 ∷ 1 ∷ replicate 6 0)
unfolding pick keep those tabulate of_kind filled nest_by nest_of
far_read = (refl, refl)

-- distances of either kind alone, of both, as long as the tile and longer by one; eight of both together and no ninth; row D with 257 for 1
pub far_told : told
    (channel (far 300 0 0) ∷ channel (distance 1 0 0 ++ far 300 1 0) ∷ channel (far 300 1 0 ++ distance 1 0 0) ∷ channel (far 400 0 0)
    ∷ channel (far 401 0 0) ∷ most 1024 ∷ most 1025 ∷ channel (far 255 256 0) ∷ channel eight ∷ channel (eight ++ far 303 0 0)
    ∷ (dimension 4 2 2 ++ dimension 1 1 0 ++ far 257 0 0 ++ close) ∷ [])
    ≡ 0 ∷ 0 ∷ 0 ∷ 0 ∷ 6 ∷ 0 ∷ 6 ∷ 6 ∷ 0 ∷ 2 ∷ 6 ∷ []
unfolding first_of ◌and◌ ◌or◌ not pick every some keep those tabulate product rank place cell_place tile_at box_tile_of tile_count cells box_tiles processors level
    raised meets in_shape exists existing tiles of_kind filled nest_by nest_of ragged blank bound_fits checked may_stand fits_at well_formed stray_record no_length
    bad_length too_large needlessly_wide no_cell same beyond faulty bad_distance reached bad_tile bad_spread last_spread bad_processors too_many_tiles
far_told = quick_all _ ∙ refl

-- byte 11 is the weight's; bytes 1, 12 and 15 have no name; kind 4 before the dimensions, behind the close
pub far_stray : told
    (channel (4 ∷ 0 ∷ 44 ∷ 1 ∷ replicate 7 0 ++ (1 ∷ replicate 4 0)) ∷ channel (4 ∷ 1 ∷ 44 ∷ 1 ∷ replicate 12 0)
    ∷ channel (4 ∷ 0 ∷ 44 ∷ 1 ∷ replicate 8 0 ++ (1 ∷ replicate 3 0)) ∷ channel (4 ∷ 0 ∷ 44 ∷ 1 ∷ replicate 11 0 ++ (1 ∷ []))
    ∷ (far 300 0 0 ++ channel (distance 1 0 0)) ∷ (channel (distance 1 0 0) ++ far 300 0 0) ∷ [])
    ≡ 0 ∷ 2 ∷ 2 ∷ 2 ∷ 2 ∷ 2 ∷ []
unfolding first_of ◌and◌ ◌or◌ not pick every some keep those tabulate product rank place cell_place tile_at box_tile_of tile_count cells box_tiles processors level
    raised meets in_shape exists existing tiles of_kind filled nest_by nest_of ragged blank bound_fits checked may_stand fits_at well_formed stray_record no_length
    bad_length too_large needlessly_wide no_cell same beyond faulty bad_distance reached bad_tile bad_spread last_spread bad_processors too_many_tiles
far_stray = quick_all _ ∙ refl

-- 18 where each component fits a byte: before 5 for zeros, a copy of kind 2, another distance of zeros, and behind 4;
-- 5 for the same distance again and for 300 beyond the dimensions
pub far_between : told
    (channel (far 255 1 0) ∷ channel (far 0 0 0) ∷ channel (distance 1 0 0 ++ far 1 0 0) ∷ channel (distance 0 0 0 ++ far 1 0 0)
    ∷ (long 600 400 ++ dimension 100 2 0 ++ far 1 0 0 ++ close) ∷ channel (far 300 0 0 ++ far 300 0 0) ∷ channel (far 0 0 300) ∷ [])
    ≡ 18 ∷ 18 ∷ 18 ∷ 18 ∷ 4 ∷ 5 ∷ 5 ∷ []
unfolding first_of ◌and◌ ◌or◌ not pick every some keep those tabulate product rank place cell_place tile_at box_tile_of tile_count cells box_tiles processors level
    raised meets in_shape exists existing tiles of_kind filled nest_by nest_of ragged blank bound_fits checked may_stand fits_at well_formed stray_record no_length
    bad_length too_large needlessly_wide no_cell same beyond faulty bad_distance reached bad_tile bad_spread last_spread bad_processors too_many_tiles
far_between = quick_all _ ∙ refl

pub tile_totals : map (λ (b : List ℕ). box_tiles (nest_of b)) (row_a ∷ row_b ∷ row_c ∷ row_d ∷ row_e ∷ row_f ∷ row_g ∷ row_h ∷ [])
    ≡ 16 ∷ 4 ∷ 8 ∷ 2 ∷ 3 ∷ 2 ∷ 4 ∷ 2 ∷ []
unfolding pick keep those tabulate product tile_count box_tiles of_kind filled nest_by nest_of
tile_totals = refl
