-- The calls on one small recipe, computed.
use mathlib.Core.Path.{refl}
use Rattle.base.specs.Tests.{◌and◌, ◌or◌, not, pick, every, some, keep, those, tabulate, product}
use Rattle.base.specs.Numbers.{first_of}
use Rattle.nest.specs.Nest.{tile_count, cells, box_tiles, processors}
use Rattle.nest.specs.Places.{rank, place, cell_place, tile_at, box_tile_of}
use Rattle.nest.specs.Shape.{level, raised, meets, in_shape, exists, existing, tiles}
use Rattle.nest.specs.Reader.{of_kind, filled, nest_by, nest_of, ragged, blank, bound_fits, checked, may_stand, fits_at, well_formed, stray_record, no_length}
use Rattle.nest.specs.Reader.{bad_length, too_large, needlessly_wide, no_cell, same, beyond, faulty, bad_distance, reached, bad_tile, bad_spread}
use Rattle.nest.specs.Reader.{last_spread, bad_processors, too_many_tiles, nest_lines, read_lines}
use Rattle.text.specs.Decimal.{decimal, signed, digits_in}
use Rattle.text.specs.Grid.{grid_text, header, head_line, row, more, rows_from, cell}
use Rattle.chart.specs.Call.{not_charted, wrong_grid, told_of, length_call, written_if, write_call}
use Rattle.chart.specs.Examples.{ChartExamples}

pub rows : ChartExamples
unfolding first_of ◌and◌ ◌or◌ not pick every some keep those tabulate product rank place cell_place tile_at box_tile_of tile_count cells box_tiles processors level
    raised meets in_shape exists existing tiles of_kind filled nest_by nest_of ragged blank bound_fits checked may_stand fits_at well_formed stray_record no_length
    bad_length too_large needlessly_wide no_cell same beyond faulty bad_distance reached bad_tile bad_spread last_spread bad_processors too_many_tiles nest_lines
    read_lines decimal signed digits_in grid_text header head_line row more rows_from cell not_charted wrong_grid told_of length_call written_if write_call
rows =
    record {
      whole = refl;
      exact = refl;
      long = refl;
      size_0 = refl;
      size_1 = refl;
      size_most = refl;
      size_above = refl;
      dimensions = refl;
      grid_short = refl;
      size_first = refl;
      reader_first = refl;
      space_short = refl;
      size_before_space = refl;
    }
