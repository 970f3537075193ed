-- The rows with bounds, computed.
use Prim.Native.Nat.{ℕ}
use mathlib.Core.Path.{◌≡◌, refl, ap, ◌∙◌}
use mathlib.Core.List.{List, [], ◌∷◌}
use lib.ListN.{get_or, replicate}
use Rattle.base.specs.Tests.{◌and◌, ◌or◌, not, pick, one, every, some, keep, those, tabulate, sum, product}
use Rattle.base.specs.Lists.{member, sublist, put, set_all, store_all, all_at, unpack, pack, count_if}
use Rattle.base.specs.Numbers.{first_of}
use Rattle.machine.specs.Plan.{offset, dues_of}
use Rattle.machine.specs.Machine.{set_progress, tiles_left, fit_record, fit, unpack_all, after_sends, carry_out, action_at, waiting, turn, deliver, collect}
use Rattle.machine.specs.Machine.{collected, fresh, sweep_to, sweep}
use Rattle.machine.specs.Runs.{act, state_after, answers_to, last, answers}
use Rattle.nest.specs.declared.Nest.{Nest}
use Rattle.nest.specs.Nest.{tile_count, cells, box_tiles, processors}
use Rattle.nest.specs.Places.{rank, place, cell_at, cell_place, tile_at, tile_place, box_tile_of}
use Rattle.nest.specs.Shape.{level, raised, meets, in_shape, exists, existing, tiles}
use Rattle.nest.specs.Reader.{of_kind, filled, nest_by, nest_of, ragged, blank, bound_fits, checked, may_stand, fits_at, well_formed, stray_record, no_length}
use Rattle.nest.specs.Reader.{bad_length, too_large, needlessly_wide, no_cell, same, beyond, faulty, bad_distance, reached, bad_tile, bad_spread}
use Rattle.nest.specs.Reader.{last_spread, bad_processors, too_many_tiles, read_lines}
use Rattle.nest.proofs.Quick.{told, quick_all}
use Rattle.plan.specs.declared.Route.TheVariants.{Direct}
use Rattle.plan.specs.Geometry.{processor_of, inside, has_read, read_at, reads_of}
use Rattle.plan.specs.Messages.{directions, ahead, reaches, taker, messages_of}
use Rattle.plan.specs.Shaped.{box_tile, tile_of, shaped_cells, reads_shape, shaped_value, reaches_shape, shaped_parcel, follows, shaped_taker}
use Rattle.plan.specs.Shaped.{shaped_slot_taker, shaped_home, shaped_slot_parcel, plan_of}
use Rattle.plan.proofs.SmallNests.{with_bound, nest_triangle, nest_column, nest_outside, messages_triangle, messages_column, messages_outside, tile_column}
use Rattle.conformance.specs.Examples.{accepted, figures_if, readers_of}
use Rattle.conformance.specs.ShapedExamples.{mail, ones, turns, row_triangle, row_alone, row_single, row_whole, row_column, row_outside, row_slope}
use Rattle.conformance.specs.ShapedExamples.{ShapedExamples}

-- ---- the nests

abbrev nest_alone : Nest
nest_alone = with_bound 2 1 1 (2 ∷ 2 ∷ 0 ∷ 0 ∷ []) (1 ∷ 1 ∷ 0 ∷ 0 ∷ []) (1 ∷ 0 ∷ 0 ∷ 0 ∷ [])
    (1 ∷ 1 ∷ replicate 30 0) (1 ∷ replicate 7 0) 2 32768 0

abbrev nest_single : Nest
nest_single = with_bound 2 1 1 (4 ∷ 4 ∷ 0 ∷ 0 ∷ []) (2 ∷ 2 ∷ 0 ∷ 0 ∷ []) (2 ∷ 0 ∷ 0 ∷ 0 ∷ [])
    (1 ∷ 0 ∷ replicate 30 0) (1 ∷ replicate 7 0) 2 32771 0

abbrev nest_whole : Nest
nest_whole = with_bound 2 1 1 (8 ∷ 8 ∷ 0 ∷ 0 ∷ []) (4 ∷ 4 ∷ 0 ∷ 0 ∷ []) (2 ∷ 0 ∷ 0 ∷ 0 ∷ [])
    (2 ∷ 1 ∷ replicate 30 0) (1 ∷ replicate 7 0) 0 32759 0

abbrev nest_slope : Nest
nest_slope = with_bound 2 1 3 (8 ∷ 8 ∷ 0 ∷ 0 ∷ []) (2 ∷ 2 ∷ 0 ∷ 0 ∷ []) (2 ∷ 0 ∷ 0 ∷ 0 ∷ [])
    (1 ∷ 0 ∷ 0 ∷ 0 ∷ 0 ∷ 1 ∷ 0 ∷ 0 ∷ 1 ∷ 1 ∷ replicate 22 0) (1 ∷ 1 ∷ 1 ∷ replicate 5 0) 2 32768 0

record Read : Type 0 where
  triangle : nest_of row_triangle ≡ nest_triangle
  alone : nest_of row_alone ≡ nest_alone
  single : nest_of row_single ≡ nest_single
  whole : nest_of row_whole ≡ nest_whole
  column : nest_of row_column ≡ nest_column
  outside : nest_of row_outside ≡ nest_outside
  slope : nest_of row_slope ≡ nest_slope

read : Read
unfolding of_kind filled nest_by nest_of pick keep those tabulate
read = record { triangle = refl; alone = refl; single = refl; whole = refl; column = refl; outside = refl; slope = refl }

-- ---- their numbers

numbers : told (row_triangle ∷ row_alone ∷ row_single ∷ row_whole ∷ []) ≡ 0 ∷ 0 ∷ 0 ∷ 0 ∷ []
unfolding first_of ◌and◌ ◌or◌ not pick every some keep those tabulate product rank place cell_place tile_at box_tile_of tile_count cells box_tiles processors level
    raised meets in_shape exists existing tiles of_kind filled nest_by nest_of ragged blank bound_fits checked may_stand fits_at well_formed stray_record no_length
    bad_length too_large needlessly_wide no_cell same beyond faulty bad_distance reached bad_tile bad_spread last_spread bad_processors too_many_tiles
numbers = quick_all _ ∙ refl

number_triangle : first_of (read_lines row_triangle) ≡ 0
unfolding told
number_triangle = ap (λ (l : List ℕ). get_or l 0 0) numbers

number_alone : first_of (read_lines row_alone) ≡ 0
unfolding told
number_alone = ap (λ (l : List ℕ). get_or l 1 0) numbers

number_single : first_of (read_lines row_single) ≡ 0
unfolding told
number_single = ap (λ (l : List ℕ). get_or l 2 0) numbers

number_whole : first_of (read_lines row_whole) ≡ 0
unfolding told
number_whole = ap (λ (l : List ℕ). get_or l 3 0) numbers

-- ---- figures, messages and words

record Counted : Type 0 where
  triangle : figures_if 0 (plan_of Direct nest_triangle) ≡ accepted 3 1 1 8
  alone : figures_if 0 (plan_of Direct nest_alone) ≡ accepted 3 0 0 6
  single : figures_if 0 (plan_of Direct nest_single) ≡ accepted 1 0 0 2
  whole : figures_if 0 (plan_of Direct nest_whole) ≡ accepted 4 2 14 12

counted : Counted
unfolding figures_if offset ◌and◌ ◌or◌ pick every some keep product rank place cell_at cell_place tile_at tile_place box_tile_of tile_count cells box_tiles level
    raised meets in_shape exists existing tiles inside directions ahead reaches processor_of box_tile reaches_shape shaped_parcel taker follows shaped_taker
    shaped_slot_taker shaped_home shaped_slot_parcel messages_of
counted = record { triangle = refl; alone = refl; single = refl; whole = refl }

messages_slope : (plan_of Direct nest_slope).messages ≡ mail 0 4 (9 ∷ []) ∷ mail 1 4 (10 ∷ 11 ∷ []) ∷ mail 2 5 (12 ∷ 13 ∷ []) ∷ mail 3 6 (14 ∷ 15 ∷ [])
    ∷ mail 4 7 (27 ∷ [])
    ∷ mail 5 7 (28 ∷ 29 ∷ []) ∷ mail 6 8 (30 ∷ 31 ∷ []) ∷ mail 7 9 (45 ∷ []) ∷ mail 8 9 (46 ∷ 47 ∷ []) ∷ []
unfolding ◌and◌ ◌or◌ pick every some keep product rank place cell_at cell_place tile_at tile_place box_tile_of tile_count cells box_tiles level raised meets in_shape
    exists existing tiles inside directions ahead reaches processor_of box_tile reaches_shape shaped_parcel taker follows shaped_taker shaped_slot_taker shaped_home
    shaped_slot_parcel messages_of
messages_slope = refl

tiles_triangle : existing nest_triangle ≡ 0 ∷ 1 ∷ 3 ∷ []
unfolding ◌and◌ ◌or◌ pick every some keep product rank place cell_at cell_place tile_at tile_place box_tile_of tile_count cells box_tiles level raised meets in_shape
    exists existing tiles
tiles_triangle = refl

tiles_single : existing nest_single ≡ 1 ∷ []
unfolding ◌and◌ ◌or◌ pick every some keep product rank place cell_at cell_place tile_at tile_place box_tile_of tile_count cells box_tiles level raised meets in_shape
    exists existing tiles
tiles_single = refl

sweep_triangle : sweep (plan_of Direct nest_triangle) ones ≡ 8 ∷ 8 ∷ 7 ∷ 9 ∷ []
unfolding sweep_to shaped_value reads_shape has_read read_at sum ◌and◌ ◌or◌ pick every some keep product rank place cell_at cell_place tile_at tile_place box_tile_of
    tile_count cells box_tiles level raised meets in_shape exists existing tiles
sweep_triangle = refl

run_triangle : answers (act (plan_of Direct nest_triangle) ones) (fresh (plan_of Direct nest_triangle)) turns
    ≡ 0 ∷ 0 ∷ 12 ∷ 0 ∷ 0 ∷ 0 ∷ 0 ∷ 0 ∷ 0 ∷ 13 ∷ []
unfolding those offset sublist put unpack unpack_all set_all store_all pack all_at one count_if not first_of set_progress tiles_left fit_record fit after_sends carry_out
    action_at waiting turn deliver act state_after answers_to fresh shaped_cells tile_of shaped_value reads_shape has_read read_at sum processors ◌and◌ ◌or◌ pick
    every some keep product rank place cell_at cell_place tile_at tile_place box_tile_of tile_count cells box_tiles level raised meets in_shape exists existing tiles
    inside directions ahead reaches processor_of box_tile reaches_shape shaped_parcel taker follows shaped_taker shaped_slot_taker shaped_home shaped_slot_parcel
    messages_of
run_triangle = refl

grid_triangle : (collect (plan_of Direct nest_triangle) (last (act (plan_of Direct nest_triangle) ones) (fresh (plan_of Direct nest_triangle)) turns)
    (0 ∷ 0 ∷ 0 ∷ 0 ∷ [])).after ≡ 8 ∷ 8 ∷ 7 ∷ 9 ∷ []
unfolding collect collected tabulate those offset sublist put unpack unpack_all set_all store_all pack all_at one count_if not first_of set_progress tiles_left
    fit_record fit after_sends carry_out action_at waiting turn deliver act state_after answers_to fresh shaped_cells tile_of shaped_value reads_shape has_read read_at
    sum processors ◌and◌ ◌or◌ pick every some keep product rank place cell_at cell_place tile_at tile_place box_tile_of tile_count cells box_tiles level raised
    meets in_shape exists existing tiles inside directions ahead reaches processor_of box_tile reaches_shape shaped_parcel taker follows shaped_taker
    shaped_slot_taker shaped_home shaped_slot_parcel messages_of
grid_triangle = refl

dues_column : dues_of (plan_of Direct nest_column) 6 ≡ 0 ∷ 1 ∷ 2 ∷ []
unfolding those ◌and◌ ◌or◌ pick every some keep product rank place cell_at cell_place tile_at tile_place box_tile_of tile_count cells box_tiles level raised meets
    in_shape exists existing tiles inside directions ahead reaches processor_of box_tile reaches_shape shaped_parcel taker follows shaped_taker shaped_slot_taker
    shaped_home shaped_slot_parcel messages_of
dues_column = refl

readers_column : readers_of nest_column 2 ≡ 11 ∷ []
unfolding readers_of reads_of has_read read_at member ◌and◌ ◌or◌ pick every some keep product rank place cell_at cell_place tile_at tile_place box_tile_of tile_count
    cells box_tiles level raised meets in_shape exists existing tiles
readers_column = refl

pub shaped_rows : ShapedExamples
shaped_rows =
    record {
      triangle = rw (number_triangle, read.triangle) counted.triangle;
      triangle_tiles = rw read.triangle tiles_triangle;
      triangle_messages = rw read.triangle messages_triangle;
      triangle_sweep = rw read.triangle sweep_triangle;
      triangle_run = rw read.triangle run_triangle;
      triangle_grid = rw read.triangle grid_triangle;
      alone = rw (number_alone, read.alone) counted.alone;
      single = rw (number_single, read.single) counted.single;
      single_tile = rw read.single tiles_single;
      whole = rw (number_whole, read.whole) counted.whole;
      column = rw read.column messages_column;
      column_dues = rw read.column dues_column;
      column_reader = rw read.column readers_column;
      column_tile = rw read.column tile_column;
      outside = rw read.outside messages_outside;
      slope = rw read.slope messages_slope;
    }
