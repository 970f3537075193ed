-- The rows of taking in, computed on the nest of row D.
use Rattle.std.specs.Prelude.{◌≡◌, ℕ, eqb, List, [], ◌∷◌, get_or}
use mathlib.Core.Path.{refl, ap, ◌∙◌}
use Rattle.base.specs.Tests.{◌and◌, ◌or◌, not, pick, every, some, keep, those, tabulate, product}
use Rattle.base.specs.Lists.{sublist, put}
use Rattle.base.specs.Numbers.{Line, line, first_of}
use Rattle.base.proofs.Numbers.{first_behind}
use Rattle.machine.specs.Plan.{Plan, offset}
use Rattle.machine.specs.Machine.{State, Answered, answered, tiles_left, fit_record, fit}
use Rattle.nest.specs.Nest.{tile_count, cells, box_tiles, processors}
use Rattle.nest.specs.Places.{rank, place, cell_at, cell_place, tile_at, tile_place, box_tile_of}
use Rattle.nest.specs.Shape.{level, raised, meets, in_shape, exists, existing, tiles}
use Rattle.nest.specs.Recipes.{row_d}
use Rattle.nest.specs.Reader.{of_kind, filled, nest_by, nest_of, ragged, blank, bound_fits, checked, may_stand, fits_at, well_formed, stray_record, no_length}
use Rattle.nest.specs.Reader.{bad_length, too_large, needlessly_wide, no_cell, same, beyond, faulty, bad_distance, reached, bad_tile, bad_spread}
use Rattle.nest.specs.Reader.{last_spread, bad_processors, too_many_tiles, nest_lines, read_lines}
use Rattle.plan.specs.declared.Route.TheVariants.{Direct}
use Rattle.plan.specs.Geometry.{processor_of, inside}
use Rattle.plan.specs.Messages.{directions, ahead, reaches, taker, messages_of}
use Rattle.plan.specs.Shaped.{box_tile, reaches_shape, shaped_parcel, follows, shaped_taker, shaped_slot_taker, shaped_home, shaped_slot_parcel, plan_of}
use Rattle.conformance.specs.ShapedExamples.{row_triangle}
use Rattle.conformance.proofs.RowNests.{nest_d, is_d}
use Rattle.conformance.proofs.AToH.{number_d}
use Rattle.layout.specs.RouteWords.{route_of}
use Rattle.recipe.specs.Routes.{indirect, lines_for}
use Rattle.recipe.proofs.Laws.{numbered_for, open_direct}
use Rattle.engine.specs.Calls.{recipe, areas}
use Rattle.network.specs.Apart.{received}
use Rattle.network.specs.Brought.{taken_by, as_long}
use Rattle.transport.specs.Calls.{take_in_call}
use Rattle.transport.specs.TakeInExamples.{source, areas_of, short, gave, taking, TakeInExamples}

abbrev pub d : Plan
d = plan_of Direct nest_d

pub plan_D : recipe row_d 0 ≡ d
unfolding route_of
plan_D = ap (plan_of Direct) is_d

-- row D is accepted: its answers are by the lines behind the reader's, on its plan
abbrev lines : Plan → State → ℕ → ℕ → List ℕ → List Line
lines p s b m words =
    line 9 (not (areas p source s and as_long p m words)) ∷ line 10 (not (fit p s)) ∷ line 11 (not (taken_by p b m))
    ∷ line 14 (not (eqb (get_or s.status m 0) 0)) ∷ []

unfoldable given : State → ℕ → ℕ → List ℕ → Answered State
given s b m words = answered (first_of (lines d s b m words)) (received d s m words) s

on_D : (s : State) (b m : ℕ) (words : List ℕ) → taking s b m words ≡ given s b m words
unfolding take_in_call given
on_D s b m words =
    ap (λ (n : ℕ). answered n (received (recipe row_d 0) s m words) s)
    (first_behind (lines_for (route_of 0) row_d) (lines (recipe row_d 0) s b m words) (numbered_for (route_of 0) row_d) (open_direct row_d number_d))
    ∙ ap (λ (p : Plan). answered (first_of (lines p s b m words)) (received p s m words) s) plan_D

computed : (given (areas_of 0 0 0) 1 0 (7 ∷ []) ≡ gave 0 (areas_of 7 0 2))
    × (given (areas_of 7 0 2) 1 0 (8 ∷ []) ≡ gave 14 (areas_of 7 0 2))
    × (given (areas_of 7 0 1) 1 0 (8 ∷ []) ≡ gave 14 (areas_of 7 0 1))
    × (given (areas_of 7 0 3) 1 0 (8 ∷ []) ≡ gave 14 (areas_of 7 0 3))
    × (given (areas_of 7 0 2) 0 0 (8 ∷ []) ≡ gave 11 (areas_of 7 0 2))
    × (given (areas_of 0 0 0) 1 1 [] ≡ gave 11 (areas_of 0 0 0))
    × (given (areas_of 0 3 2) 0 0 (8 ∷ []) ≡ gave 10 (areas_of 0 3 2))
    × (given short 0 0 (8 ∷ []) ≡ gave 9 short)
    × (given (areas_of 0 3 2) 0 0 (8 ∷ 9 ∷ []) ≡ gave 9 (areas_of 0 3 2))
unfolding given areas first_of not ◌and◌ ◌or◌ pick every some keep those product offset sublist put tiles_left fit_record fit tile_count cells box_tiles processors
    rank place
    cell_at cell_place tile_at tile_place box_tile_of level raised meets in_shape exists existing tiles inside directions ahead reaches taker messages_of box_tile
    reaches_shape shaped_parcel follows shaped_taker shaped_slot_taker shaped_home shaped_slot_parcel processor_of
computed = (refl, refl, refl, refl, refl, refl, refl, refl, refl)

refused : (take_in_call [] 0 source short 0 0 (8 ∷ []) ≡ gave 1 short) × (take_in_call row_triangle 1 source short 0 0 (8 ∷ []) ≡ gave 21 short)
unfolding take_in_call first_of ◌and◌ ◌or◌ not pick every some keep those tabulate product rank place cell_place tile_at box_tile_of tile_count cells box_tiles processors
    level raised meets in_shape exists existing tiles of_kind filled nest_by nest_of ragged blank bound_fits checked may_stand fits_at well_formed stray_record no_length
    bad_length too_large needlessly_wide no_cell same beyond faulty bad_distance reached bad_tile bad_spread last_spread bad_processors too_many_tiles nest_lines
    read_lines route_of indirect lines_for
refused = (refl, refl)

pub take_in_rows : TakeInExamples
take_in_rows =
    record {
      taken = on_D (areas_of 0 0 0) 1 0 (7 ∷ []) ∙ computed.0;
      again = on_D (areas_of 7 0 2) 1 0 (8 ∷ []) ∙ computed.1;
      in_flight = on_D (areas_of 7 0 1) 1 0 (8 ∷ []) ∙ computed.2;
      gathered = on_D (areas_of 7 0 3) 1 0 (8 ∷ []) ∙ computed.3;
      other_first = on_D (areas_of 7 0 2) 0 0 (8 ∷ []) ∙ computed.4;
      no_message = on_D (areas_of 0 0 0) 1 1 [] ∙ computed.5;
      unfit_first = on_D (areas_of 0 3 2) 0 0 (8 ∷ []) ∙ computed.6;
      area_first = on_D short 0 0 (8 ∷ []) ∙ computed.7;
      words_first = on_D (areas_of 0 3 2) 0 0 (8 ∷ 9 ∷ []) ∙ computed.8;
      reader_first = refused.0;
      route_first = refused.1;
    }
