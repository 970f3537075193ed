-- The row, computed on the nest of its recipe.
use Rattle.std.specs.Prelude.{◌≡◌, [], ◌∷◌}
use mathlib.Core.Path.{refl, ap, ◌∙◌}
use Rattle.base.specs.Tests.{◌and◌, ◌or◌, not, pick, every, some, keep, those, product, sum}
use Rattle.base.specs.Lists.{member, sublist, put, set_all, all_at, unpack, pack, store_all}
use Rattle.base.specs.Numbers.{first_of}
use Rattle.machine.specs.Plan.{Plan, offset}
use Rattle.machine.specs.Machine.{set_progress, tiles_left, fit_record, fit, unpack_all, after_sends, carry_out, action_at, waiting, turn_lines, fresh}
use Rattle.nest.specs.Nest.{tile_count, cells, box_tiles, processors}
use Rattle.nest.specs.Places.{rank, place, cell_at, cell_place, tile_at, tile_place, box_tile_of}
use Rattle.nest.specs.Shape.{level, raised, meets, in_shape, exists, existing, tiles}
use Rattle.nest.specs.Recipes.{row_d}
use Rattle.plan.specs.declared.Route.TheVariants.{Direct}
use Rattle.plan.specs.Geometry.{processor_of, inside, has_read, read_at}
use Rattle.plan.specs.Messages.{directions, ahead, reaches, taker, messages_of}
use Rattle.plan.specs.Shaped.{box_tile, reaches_shape, shaped_parcel, follows, shaped_taker, shaped_slot_taker, shaped_home, shaped_slot_parcel, plan_of}
use Rattle.plan.specs.Shaped.{shaped_cells, reads_shape, shaped_value}
use Rattle.conformance.proofs.RowNests.{nest_d, is_d}
use Rattle.layout.specs.RouteWords.{route_of}
use Rattle.engine.specs.Calls.{recipe}
use Rattle.network.specs.Own.{owns, keeps, handles, handled, mail_of, put_mail, narrowed, widened, source_of}
use Rattle.part.specs.Part.{part_of, lent_of, words_of}
use Rattle.part_calls.specs.front.Calls.{from_part, to_part, lengths_of, part_row, part_rows, stepped}
use Rattle.part_calls.specs.PartExamples.{tells, before, came, gathered, calculated, PartExamples}

plan_D : recipe row_d 0 ≡ plan_of Direct nest_d
unfolding route_of
plan_D = ap (plan_of Direct) is_d

abbrev d : Plan
d = plan_of Direct nest_d

first : lengths_of d 0 ≡ tells 2 2 1 1
unfolding lengths_of owns keeps handles words_of member ◌and◌ ◌or◌ pick every some keep those product tile_count cells box_tiles rank place cell_at cell_place
    tile_at tile_place box_tile_of level raised meets in_shape exists existing tiles inside directions ahead reaches taker messages_of box_tile reaches_shape
    shaped_parcel follows shaped_taker shaped_slot_taker shaped_home shaped_slot_parcel shaped_cells processor_of processors
first = refl

second : lengths_of d 1 ≡ tells 2 3 1 1
unfolding lengths_of owns keeps handles words_of member ◌and◌ ◌or◌ pick every some keep those product tile_count cells box_tiles rank place cell_at cell_place
    tile_at tile_place box_tile_of level raised meets in_shape exists existing tiles inside directions ahead reaches taker messages_of box_tile reaches_shape
    shaped_parcel follows shaped_taker shaped_slot_taker shaped_home shaped_slot_parcel shaped_cells processor_of processors
second = refl

rows : part_rows d 1 (handled d 1) ≡ 0 ∷ 0 ∷ 1 ∷ 0 ∷ 1 ∷ 1 ∷ 0 ∷ []
unfolding part_rows part_row handles words_of ◌and◌ ◌or◌ pick every some keep those product tile_count cells box_tiles rank place cell_at cell_place tile_at tile_place
    box_tile_of level raised meets in_shape exists existing tiles inside directions ahead reaches taker messages_of box_tile reaches_shape shaped_parcel follows
    shaped_taker shaped_slot_taker shaped_home shaped_slot_parcel shaped_cells processor_of processors
rows = refl

no_message : first_of (turn_lines d (from_part d 1 before) 1) ≡ 12
unfolding first_of not member offset sublist put set_all all_at unpack pack store_all set_progress tiles_left fit_record fit unpack_all after_sends carry_out action_at
    waiting fresh owns keeps handles mail_of put_mail narrowed widened source_of part_of lent_of shaped_value reads_shape has_read read_at sum ◌and◌ ◌or◌ pick every
    some keep those product tile_count cells box_tiles rank place cell_at cell_place tile_at tile_place box_tile_of level raised meets in_shape exists existing tiles
    inside directions ahead reaches taker messages_of box_tile reaches_shape shaped_parcel follows shaped_taker shaped_slot_taker shaped_home shaped_slot_parcel
    shaped_cells processor_of processors
no_message = refl

gather_turn : to_part d 1 (stepped d 1 (5 ∷ 6 ∷ []) came) ≡ gathered
unfolding first_of not member offset sublist put set_all all_at unpack pack store_all set_progress tiles_left fit_record fit unpack_all after_sends carry_out action_at
    waiting fresh owns keeps handles mail_of put_mail narrowed widened source_of part_of lent_of shaped_value reads_shape has_read read_at sum ◌and◌ ◌or◌ pick every
    some keep those product tile_count cells box_tiles rank place cell_at cell_place tile_at tile_place box_tile_of level raised meets in_shape exists existing tiles
    inside directions ahead reaches taker messages_of box_tile reaches_shape shaped_parcel follows shaped_taker shaped_slot_taker shaped_home shaped_slot_parcel
    shaped_cells processor_of processors
gather_turn = refl

calculate_turn : to_part d 1 (stepped d 1 (5 ∷ 6 ∷ []) gathered) ≡ calculated
unfolding first_of not member offset sublist put set_all all_at unpack pack store_all set_progress tiles_left fit_record fit unpack_all after_sends carry_out action_at
    waiting fresh owns keeps handles mail_of put_mail narrowed widened source_of part_of lent_of shaped_value reads_shape has_read read_at sum ◌and◌ ◌or◌ pick every
    some keep those product tile_count cells box_tiles rank place cell_at cell_place tile_at tile_place box_tile_of level raised meets in_shape exists existing tiles
    inside directions ahead reaches taker messages_of box_tile reaches_shape shaped_parcel follows shaped_taker shaped_slot_taker shaped_home shaped_slot_parcel
    shaped_cells processor_of processors
calculate_turn = refl

no_tile : first_of (turn_lines d (from_part d 1 calculated) 1) ≡ 13
unfolding first_of not member offset sublist put set_all all_at unpack pack store_all set_progress tiles_left fit_record fit unpack_all after_sends carry_out action_at
    waiting fresh owns keeps handles mail_of put_mail narrowed widened source_of part_of lent_of shaped_value reads_shape has_read read_at sum ◌and◌ ◌or◌ pick every
    some keep those product tile_count cells box_tiles rank place cell_at cell_place tile_at tile_place box_tile_of level raised meets in_shape exists existing tiles
    inside directions ahead reaches taker messages_of box_tile reaches_shape shaped_parcel follows shaped_taker shaped_slot_taker shaped_home shaped_slot_parcel
    shaped_cells processor_of processors
no_tile = refl

pub own_rows : PartExamples
own_rows =
    record {
      lengths_first = ap (λ (p : Plan). lengths_of p 0) plan_D ∙ first;
      lengths_second = ap (λ (p : Plan). lengths_of p 1) plan_D ∙ second;
      messages_second = ap (λ (p : Plan). part_rows p 1 (handled p 1)) plan_D ∙ rows;
      waits = ap (λ (p : Plan). first_of (turn_lines p (from_part p 1 before) 1)) plan_D ∙ no_message;
      gathers = ap (λ (p : Plan). to_part p 1 (stepped p 1 (5 ∷ 6 ∷ []) came)) plan_D ∙ gather_turn;
      calculates = ap (λ (p : Plan). to_part p 1 (stepped p 1 (5 ∷ 6 ∷ []) gathered)) plan_D ∙ calculate_turn;
      over = ap (λ (p : Plan). first_of (turn_lines p (from_part p 1 calculated) 1)) plan_D ∙ no_tile;
    }
