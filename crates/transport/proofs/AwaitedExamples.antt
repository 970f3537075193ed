-- The rows of what is awaited, computed on the nest of row D.
use Rattle.std.specs.Prelude.{◌≡◌, ℕ, ltb, List, [], ◌∷◌}
use mathlib.Core.Path.{refl, ap, ◌∙◌}
use Rattle.base.specs.Tests.{◌and◌, ◌or◌, not, pick, one, every, some, keep, those, tabulate, product}
use Rattle.base.specs.Numbers.{Line, line, first_of}
use Rattle.base.proofs.Numbers.{first_behind}
use Rattle.machine.specs.Plan.{Plan}
use Rattle.machine.specs.Machine.{State, Answered, answered, tiles_left, fit_record, fit}
use Rattle.nest.specs.Nest.{tile_count, cells, box_tiles, processors}
use Rattle.nest.specs.Places.{rank, place, cell_at, cell_place, tile_at, tile_place, box_tile_of}
use Rattle.nest.specs.Shape.{level, raised, meets, in_shape, exists, existing, tiles}
use Rattle.nest.specs.Recipes.{row_d}
use Rattle.nest.specs.Reader.{of_kind, filled, nest_by, nest_of, ragged, blank, bound_fits, checked, may_stand, fits_at, well_formed, stray_record, no_length}
use Rattle.nest.specs.Reader.{bad_length, too_large, needlessly_wide, no_cell, same, beyond, faulty, bad_distance, reached, bad_tile, bad_spread}
use Rattle.nest.specs.Reader.{last_spread, bad_processors, too_many_tiles, nest_lines, read_lines}
use Rattle.plan.specs.declared.Route.TheVariants.{Direct}
use Rattle.plan.specs.Geometry.{processor_of, inside}
use Rattle.plan.specs.Messages.{directions, ahead, reaches, taker, messages_of}
use Rattle.plan.specs.Shaped.{box_tile, reaches_shape, shaped_parcel, follows, shaped_taker, shaped_slot_taker, shaped_home, shaped_slot_parcel, plan_of}
use Rattle.conformance.specs.ShapedExamples.{row_triangle}
use Rattle.conformance.proofs.RowNests.{nest_d, is_d}
use Rattle.conformance.proofs.AToH.{number_d}
use Rattle.layout.specs.RouteWords.{route_of}
use Rattle.recipe.specs.Routes.{indirect, lines_for}
use Rattle.recipe.proofs.Laws.{numbered_for, open_direct}
use Rattle.engine.specs.Calls.{recipe}
use Rattle.transport.specs.Calls.{Waits, waits_of, awaits, waited, wait_areas, awaited_call}
use Rattle.transport.specs.AwaitedExamples.{records, long, lent, left, gave, asked, AwaitedExamples}

abbrev d : Plan
d = plan_of Direct nest_d

plan_D : recipe row_d 0 ≡ d
unfolding route_of
plan_D = ap (plan_of Direct) is_d

-- row D is accepted: its answers are by the lines behind the reader's, on its plan
abbrev lines : Plan → State → ℕ → List Line
lines p s b =
    line 9 (not (wait_areas p s lent)) ∷ line 10 (not (fit p s)) ∷ line 11 (not (ltb b p.processors)) ∷ line 13 (not (tiles_left p s b)) ∷ []

unfoldable given : State → ℕ → Answered Waits
given s b = answered (first_of (lines d s b)) (waited d s b) left

on_D : (s : State) (b : ℕ) → asked s b ≡ given s b
unfolding awaited_call given
on_D s b =
    ap (λ (n : ℕ). answered n (waited (recipe row_d 0) s b) left)
    (first_behind (lines_for (route_of 0) row_d) (lines (recipe row_d 0) s b) (numbered_for (route_of 0) row_d) (open_direct row_d number_d))
    ∙ ap (λ (p : Plan). answered (first_of (lines p s b)) (waited p s b) left) plan_D

computed : (given (records 0 0 1) 1 ≡ gave 0 (waits_of (1 ∷ []) 1))
    × (given (records 0 0 2) 1 ≡ gave 0 (waits_of (0 ∷ []) 1))
    × (given (records 0 1 1) 1 ≡ gave 0 (waits_of (0 ∷ []) 1))
    × (given (records 1 0 1) 1 ≡ gave 13 left)
    × (given (records 1 0 1) 2 ≡ gave 11 left)
    × (given (records 1 3 1) 2 ≡ gave 10 left)
    × (given long 2 ≡ gave 9 left)
unfolding given waited wait_areas awaits one tabulate first_of not ◌and◌ ◌or◌ pick every some keep those product tiles_left fit_record fit tile_count cells box_tiles processors rank place
    cell_at cell_place tile_at tile_place box_tile_of level raised meets in_shape exists existing tiles inside directions ahead reaches taker messages_of box_tile
    reaches_shape shaped_parcel follows shaped_taker shaped_slot_taker shaped_home shaped_slot_parcel processor_of
computed = (refl, refl, refl, refl, refl, refl, refl)

refused : (awaited_call [] 0 long 2 lent ≡ gave 1 left) × (awaited_call row_triangle 1 long 2 lent ≡ gave 21 left)
unfolding awaited_call first_of ◌and◌ ◌or◌ not pick every some keep those tabulate product rank place cell_place tile_at box_tile_of tile_count cells box_tiles processors
    level raised meets in_shape exists existing tiles of_kind filled nest_by nest_of ragged blank bound_fits checked may_stand fits_at well_formed stray_record no_length
    bad_length too_large needlessly_wide no_cell same beyond faulty bad_distance reached bad_tile bad_spread last_spread bad_processors too_many_tiles nest_lines
    read_lines route_of indirect lines_for
refused = (refl, refl)

pub awaited_rows : AwaitedExamples
awaited_rows =
    record {
      waits = on_D (records 0 0 1) 1 ∙ computed.0;
      delivered = on_D (records 0 0 2) 1 ∙ computed.1;
      calculates = on_D (records 0 1 1) 1 ∙ computed.2;
      over = on_D (records 1 0 1) 1 ∙ computed.3;
      processor_first = on_D (records 1 0 1) 2 ∙ computed.4;
      unfit_first = on_D (records 1 3 1) 2 ∙ computed.5;
      area_first = on_D long 2 ∙ computed.6;
      reader_first = refused.0;
      route_first = refused.1;
    }
