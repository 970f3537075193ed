-- The rows, computed on the nest of row D.
use mathlib.Core.Path.{◌≡◌, refl, ap, ◌∙◌}
use mathlib.Core.Bool.{Bool, true, false}
use mathlib.Core.List.{List, [], ◌∷◌}
use Rattle.base.specs.Tests.{◌and◌, ◌or◌, not, pick, one, every, some, keep, those, tabulate, product, sum}
use Rattle.base.specs.Lists.{sublist, put, set_all, store_all, all_at, unpack, pack, count_if}
use Rattle.base.specs.Numbers.{first_of}
use Rattle.machine.specs.Plan.{Plan, offset}
use Rattle.machine.specs.Machine.{set_progress, tiles_left, fit_record, fit, unpack_all, after_sends, carry_out, action_at, waiting, turn, deliver, fresh}
use Rattle.machine.specs.Runs.{Event, turn_of, delivery_of, act, state_after, answers_to}
use Rattle.nest.specs.declared.Nest.{Nest}
use Rattle.nest.specs.Nest.{tile_count, cells, box_tiles, processors}
use Rattle.nest.specs.Places.{rank, place, cell_at, cell_place, tile_at, tile_place, box_tile_of}
use Rattle.nest.specs.Shape.{level, raised, meets, in_shape, exists, existing, tiles}
use Rattle.nest.specs.Reader.{of_kind, filled, nest_by, nest_of}
use Rattle.nest.specs.Recipes.{row_d}
use Rattle.plan.specs.declared.Route.TheVariants.{Direct}
use Rattle.plan.specs.Geometry.{processor_of, inside, has_read, read_at}
use Rattle.plan.specs.Messages.{directions, ahead, reaches, taker, messages_of}
use Rattle.plan.specs.Shaped.{box_tile, shaped_cells, reads_shape, shaped_value, reaches_shape, shaped_parcel, follows, shaped_taker, shaped_slot_taker, shaped_home}
use Rattle.plan.specs.Shaped.{shaped_slot_parcel, plan_of}
use Rattle.plan.proofs.SmallNests.{nest}
use Rattle.layout.specs.RouteWords.{route_of}
use Rattle.engine.specs.Calls.{recipe}
use Rattle.comparison.specs.drive.Drive.{in_order, turns_to, deliveries_to, took, round_of, rounds_of}
use Rattle.comparison.specs.Agreement.{source_of}
use Rattle.comparison.specs.DriveExamples.{two, DriveExamples}
use lib.ListN.{replicate}

nest_d : Nest
nest_d = nest 2 1 1 (4 ∷ 1 ∷ 0 ∷ 0 ∷ []) (2 ∷ 1 ∷ 0 ∷ 0 ∷ []) (2 ∷ 0 ∷ 0 ∷ 0 ∷ []) (1 ∷ replicate 31 0) (1 ∷ replicate 7 0)

plan_D : recipe row_d 0 ≡ plan_of Direct nest_d
unfolding nest_d route_of of_kind filled nest_by nest_of pick keep those tabulate
plan_D = ap (plan_of Direct) refl

abbrev events : Plan → Bool → List Event
events p falling = rounds_of (act p (source_of true 4)) (two falling) 6 (fresh p)

computed : (events (plan_of Direct nest_d) false
    ≡ turn_of 0 ∷ turn_of 1 ∷ turn_of 0 ∷ turn_of 1 ∷ turn_of 0 ∷ turn_of 1 ∷ turn_of 0 ∷ turn_of 1 ∷ delivery_of 0
    ∷ turn_of 0 ∷ turn_of 1 ∷ turn_of 0 ∷ turn_of 1 ∷ [])
    × (events (plan_of Direct nest_d) true
    ≡ turn_of 1 ∷ turn_of 0 ∷ turn_of 1 ∷ turn_of 0 ∷ turn_of 1 ∷ turn_of 0 ∷ turn_of 1 ∷ turn_of 0 ∷ delivery_of 0
    ∷ turn_of 1 ∷ turn_of 0 ∷ turn_of 1 ∷ turn_of 0 ∷ [])
unfolding nest_d source_of in_order turns_to deliveries_to took round_of rounds_of act state_after answers_to count_if one turn deliver fresh first_of set_progress tiles_left
    fit_record fit unpack_all after_sends carry_out action_at waiting offset sublist put set_all store_all all_at unpack pack tabulate sum not ◌and◌ ◌or◌ pick every
    some
    keep those product tile_count cells box_tiles processors rank place cell_at cell_place tile_at tile_place box_tile_of level raised meets in_shape exists existing
    tiles inside has_read read_at directions ahead reaches taker messages_of box_tile shaped_cells reads_shape shaped_value reaches_shape shaped_parcel follows
    shaped_taker shaped_slot_taker shaped_home shaped_slot_parcel processor_of
computed = (refl, refl)

pub drive_rows : DriveExamples
unfolding source_of in_order turns_to deliveries_to tabulate pick ◌and◌
drive_rows =
    record {
      ones = refl;
      numbers = refl;
      rising = refl;
      falling = refl;
      mail = refl;
      D-rising = ap (λ (p : Plan). events p false) plan_D ∙ computed.0;
      D-falling = ap (λ (p : Plan). events p true) plan_D ∙ computed.1;
    }
