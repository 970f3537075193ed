-- The body's arithmetic, computed.
use mathlib.Core.Path.{refl, ◌∙◌}
use Rattle.base.specs.Tests.{◌and◌, ◌or◌, not, pick, one, every, some, keep, those, tabulate, sum, product}
use Rattle.base.specs.Numbers.{first_of}
use Rattle.machine.specs.Machine.{sweep_to}
use Rattle.nest.specs.Nest.{tile_count, cells, box_tiles, processors}
use Rattle.nest.specs.Places.{rank, place, cell_at, cell_place, tile_at, tile_place, box_tile_of}
use Rattle.nest.specs.Shape.{level, raised, meets, in_shape, exists, existing, tiles}
use Rattle.nest.specs.Reader.{of_kind, filled, nest_by, nest_of, ragged, blank, bound_fits, checked, may_stand, fits_at, well_formed, stray_record, no_length}
use Rattle.nest.specs.Reader.{bad_length, too_large, needlessly_wide, no_cell, same, beyond, faulty, bad_distance, reached, bad_tile, bad_spread}
use Rattle.nest.specs.Reader.{last_spread, bad_processors, too_many_tiles}
use Rattle.nest.proofs.Quick.{quick}
use Rattle.plan.specs.Geometry.{has_read, read_at, value}
use Rattle.plan.specs.Loops.{values, do_loop, for_each, nested}
use Rattle.plan.specs.Shaped.{reads_shape, shaped_value}
use Rattle.conformance.specs.Exact.{sequential, read_from, body, run_nest}
use Rattle.conformance.specs.ExactShape.{shape_of}
use Rattle.conformance.specs.BodyExamples.{row_heavy, row_heavy_bound, BodyExamples}

pub body_rows : BodyExamples
unfolding first_of ◌and◌ ◌or◌ not pick one every some keep those tabulate sum product rank place cell_at cell_place tile_at tile_place box_tile_of tile_count cells
    box_tiles processors level raised meets in_shape exists existing tiles of_kind filled nest_by nest_of ragged blank bound_fits checked may_stand fits_at well_formed
    stray_record no_length bad_length too_large needlessly_wide no_cell same beyond faulty bad_distance reached bad_tile bad_spread last_spread bad_processors
    too_many_tiles sweep_to has_read read_at value values do_loop for_each nested reads_shape shaped_value sequential read_from body run_nest shape_of
body_rows =
    record {
      read = quick row_heavy ∙ refl;
      read_bound = quick row_heavy_bound ∙ refl;
      direct = refl;
      indirect = refl;
      with_bound = refl;
      nest = refl;
      nest_bound = refl;
    }
