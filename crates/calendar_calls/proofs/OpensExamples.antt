-- The minutes until row D's processors next open, computed.
use Rattle.std.specs.Prelude.{◌≡◌, ℕ, ◌+◌, ◌%◌, false, None}
use mathlib.Core.Path.{refl, ap, ◌∙◌}
use Rattle.base.specs.Tests.{◌and◌, ◌or◌, not, pick, every, some, keep, those, tabulate, product}
use Rattle.base.specs.Numbers.{first_of}
use Rattle.calendar.specs.Windows.{is_window, is_faulty, covers, faulty_board, faulty_table, faulty_minute, open_at, faulty_for, first_from, until_open, week}
use Rattle.calendar.proofs.Search.{first_none}
use Rattle.nest.specs.Nest.{tile_count, cells, box_tiles, processors}
use Rattle.nest.specs.Places.{rank, place, cell_place, tile_at, box_tile_of}
use Rattle.nest.specs.Shape.{level, raised, meets, in_shape, exists, existing, tiles}
use Rattle.nest.specs.Reader.{of_kind, filled, nest_by, nest_of, ragged, blank, bound_fits, checked, may_stand, fits_at, well_formed, stray_record, no_length}
use Rattle.nest.specs.Reader.{bad_length, too_large, needlessly_wide, no_cell, same, beyond, faulty, bad_distance, reached, bad_tile, bad_spread}
use Rattle.nest.specs.Reader.{last_spread, bad_processors, too_many_tiles, nest_lines, read_lines}
use Rattle.layout.specs.RouteWords.{route_of}
use Rattle.calendar_calls.specs.Calls.{opens_call, opening_words}
use Rattle.calendar_calls.specs.OpensExamples.{OpensExamples, calendar, gave, asked}

-- the second processor has no window, so it is open at no minute
shut : (n : ℕ) → open_at calendar 1 n ≡ false
unfolding is_window covers open_at ◌and◌ ◌or◌ not some
shut n = refl

never_told : until_open calendar 0 1 ≡ None
unfolding until_open
never_told = first_none (λ n. open_at calendar 1 ((0 + n) % week)) 10080 0 (λ i h. shut ((0 + i) % week))

asked_told : asked calendar 0 1 ≡ gave 0 (until_open calendar 0 1)
unfolding first_of ◌and◌ ◌or◌ not pick every some keep those tabulate product rank place cell_place tile_at box_tile_of tile_count cells box_tiles processors level
    raised meets in_shape exists existing tiles of_kind filled nest_by nest_of ragged blank bound_fits checked may_stand fits_at well_formed stray_record no_length
    bad_length too_large needlessly_wide no_cell same beyond faulty bad_distance reached bad_tile bad_spread last_spread bad_processors too_many_tiles nest_lines
    read_lines route_of is_window is_faulty faulty_board faulty_table faulty_minute faulty_for opens_call
asked_told = refl

never_is : asked calendar 0 1 ≡ gave 0 None
never_is = asked_told ∙ ap (gave 0) never_told

pub rows : OpensExamples
unfolding first_of ◌and◌ ◌or◌ not pick every some keep those tabulate product rank place cell_place tile_at box_tile_of tile_count cells box_tiles processors level
    raised meets in_shape exists existing tiles of_kind filled nest_by nest_of ragged blank bound_fits checked may_stand fits_at well_formed stray_record no_length
    bad_length too_large needlessly_wide no_cell same beyond faulty bad_distance reached bad_tile bad_spread last_spread bad_processors too_many_tiles nest_lines
    read_lines route_of is_window is_faulty covers faulty_board faulty_table faulty_minute open_at faulty_for first_from until_open opens_call opening_words
rows =
    record {
      before = refl;
      opens = refl;
      last = refl;
      closes = refl;
      week = refl;
      never = never_is;
      window = refl;
      minute = refl;
      processor = refl;
      window_first = refl;
      minute_first = refl;
      minute_never = refl;
      table_short = refl;
      lengths_first = refl;
      reader_first = refl;
      words = (refl, refl);
    }
