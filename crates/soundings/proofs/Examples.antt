-- The call on small files, computed.
use mathlib.Core.Path.{refl}
use Rattle.base.specs.Tests.{◌and◌, ◌or◌, not, pick, every, some, keep, those, tabulate, product}
use Rattle.base.specs.Numbers.{first_of}
use Rattle.nest.specs.Nest.{tile_count, cells, box_tiles, processors}
use Rattle.nest.specs.Places.{rank, place, cell_place, tile_at, box_tile_of}
use Rattle.nest.specs.Shape.{level, raised, meets, in_shape, exists, existing, tiles}
use Rattle.nest.specs.Reader.{of_kind, filled, nest_by, nest_of, ragged, blank, bound_fits, checked, may_stand, fits_at, well_formed, stray_record, no_length}
use Rattle.nest.specs.Reader.{bad_length, too_large, needlessly_wide, no_cell, same, beyond, faulty, bad_distance, reached, bad_tile, bad_spread}
use Rattle.nest.specs.Reader.{last_spread, bad_processors, too_many_tiles, nest_lines, read_lines}
use Rattle.soundings.specs.Soundings.{cell_of, day_of, survey_of, depth_of, beats, better, best_of, depth_or, sounded_word, sounded_source, ragged_file, off_box}
use Rattle.soundings.specs.Soundings.{fill_call}
use Rattle.soundings.specs.Examples.{SoundingExamples}

pub rows : SoundingExamples
unfolding first_of ◌and◌ ◌or◌ not pick every some keep those tabulate product rank place cell_place tile_at box_tile_of tile_count cells box_tiles processors level
    raised meets in_shape exists existing tiles of_kind filled nest_by nest_of ragged blank bound_fits checked may_stand fits_at well_formed stray_record no_length
    bad_length too_large needlessly_wide no_cell same beyond faulty bad_distance reached bad_tile bad_spread last_spread bad_processors too_many_tiles nest_lines
    read_lines cell_of day_of survey_of depth_of beats better best_of depth_or sounded_word sounded_source ragged_file off_box fill_call
rows =
    record {
      counts = refl;
      unsigned = refl;
      empty = refl;
      ragged_file_lem = refl;
      ragged_first = refl;
      reader_first = refl;
      source_short = refl;
      off_box_lem = refl;
      source_first = refl;
      off_box_again = refl;
      off_shape = refl;
    }
