-- The view at row D's memories, computed.
use mathlib.Core.Path.{refl}
use Rattle.base.specs.Tests.{◌and◌, ◌or◌, not, pick, every, some, keep, those, tabulate, product}
use Rattle.base.specs.Lists.{sublist}
use Rattle.base.specs.Numbers.{first_of}
use Rattle.nest.specs.Nest.{tile_count, cells, box_tiles, processors}
use Rattle.nest.specs.Places.{rank, place, cell_place, tile_at, box_tile_of}
use Rattle.nest.specs.Shape.{level, raised, meets, in_shape, exists, existing, tiles}
use Rattle.nest.specs.Reader.{of_kind, filled, nest_by, nest_of, ragged, blank, bound_fits, checked, may_stand, fits_at, well_formed, stray_record, no_length}
use Rattle.nest.specs.Reader.{bad_length, too_large, needlessly_wide, no_cell, same, beyond, faulty, bad_distance, reached, bad_tile, bad_spread}
use Rattle.nest.specs.Reader.{last_spread, bad_processors, too_many_tiles, nest_lines, read_lines}
use Rattle.tenants.specs.Tenants.{of_tenant}
use Rattle.layout.specs.RouteWords.{route_of}
use Rattle.sharing.specs.Calls.{view_part}
use Rattle.sharing.specs.ViewExamples.{ViewExamples}

pub rows : ViewExamples
unfolding first_of ◌and◌ ◌or◌ not pick every some keep those tabulate product rank place cell_place tile_at box_tile_of tile_count cells box_tiles processors level
    raised meets in_shape exists existing tiles of_kind filled nest_by nest_of ragged blank bound_fits checked may_stand fits_at well_formed stray_record no_length
    bad_length too_large needlessly_wide no_cell same beyond faulty bad_distance reached bad_tile bad_spread last_spread bad_processors too_many_tiles nest_lines
    read_lines sublist of_tenant route_of view_part
rows =
    record {
      first_0 = refl;
      first_1 = refl;
      second_0 = refl;
      second_1 = refl;
      tenant_2 = refl;
      processor_2 = refl;
      other_short = refl;
      own_short = refl;
      lengths_first = refl;
      lengths_before_processor = refl;
      reader_first = refl;
    }
