-- The numbers of the rows, computed on the nest of row D.
use Rattle.std.specs.Prelude.{◌≡◌, ℕ, ◌*◌, eqb, ltb, List, [], ◌∷◌, ◌++◌, length, get_or}
use mathlib.Core.Path.{refl, ap, ◌∙◌}
use mathlib.Core.List.{append_assoc}
use Rattle.base.specs.Tests.{◌and◌, ◌or◌, not, pick, every, some, keep, those, tabulate, product}
use Rattle.base.specs.Lists.{member, sublist, put, all_at, unpack}
use Rattle.base.specs.Numbers.{Line, line, first_of}
use Rattle.base.proofs.Numbers.{first_behind}
use Rattle.machine.specs.Plan.{Plan, offset}
use Rattle.machine.specs.Machine.{State, tiles_left, fit_record, fit, waiting, set_progress, turn_lines, deliver_lines, fresh}
use Rattle.nest.specs.Nest.{tile_count, cells, box_tiles, processors}
use Rattle.nest.specs.Places.{rank, place, cell_at, cell_place, tile_at, tile_place, box_tile_of}
use Rattle.nest.specs.Shape.{level, raised, meets, in_shape, exists, existing, tiles}
use Rattle.nest.specs.Recipes.{row_d}
use Rattle.nest.specs.Reader.{of_kind, filled, nest_by, nest_of, ragged, blank, bound_fits, checked, may_stand, fits_at, well_formed, stray_record, no_length}
use Rattle.nest.specs.Reader.{bad_length, too_large, needlessly_wide, no_cell, same, beyond, faulty, bad_distance, reached, bad_tile, bad_spread}
use Rattle.nest.specs.Reader.{last_spread, bad_processors, too_many_tiles, nest_lines, read_lines}
use Rattle.plan.specs.declared.Route.TheVariants.{Direct}
use Rattle.plan.specs.Geometry.{processor_of, inside}
use Rattle.plan.specs.Messages.{directions, ahead, reaches, taker, messages_of}
use Rattle.plan.specs.Shaped.{box_tile, reaches_shape, shaped_parcel, follows, shaped_taker, shaped_slot_taker, shaped_home, shaped_slot_parcel, plan_of}
use Rattle.plan.specs.Shaped.{shaped_cells}
use Rattle.conformance.specs.ShapedExamples.{row_triangle}
use Rattle.conformance.proofs.RowNests.{nest_d, is_d}
use Rattle.conformance.proofs.AToH.{number_d}
use Rattle.layout.specs.RouteWords.{route_of}
use Rattle.recipe.specs.Routes.{indirect, lines_for}
use Rattle.recipe.proofs.Laws.{numbered_for, open_direct}
use Rattle.engine.specs.Calls.{recipe}
use Rattle.network.specs.Own.{owns, keeps, handles, own_cells, handled, put_mail, widened}
use Rattle.network.specs.Brought.{taken_by, as_long}
use Rattle.part.specs.Part.{part_fits, words_of}
use Rattle.part.specs.Part as sublist
use Rattle.part_calls.specs.front.Calls.{from_part, board_lines, collect_fits, part_messages_call, part_fresh_call, part_turn_call, part_post_call, part_arrive_call}
use Rattle.part_calls.specs.front.Calls.{part_collect_call}
use Rattle.part_calls.specs.PartNumbers.{part_of, sender_part, unfit, short, source, grid, posted, arrived, collected, PartNumbers}

abbrev d : Plan
d = plan_of Direct nest_d

plan_D : recipe row_d 0 ≡ d
unfolding route_of
plan_D = ap (plan_of Direct) is_d

-- row D is accepted: a call's number is by the lines behind the reader's, on its plan
abbrev behind : ℕ → (Plan → List Line) → ℕ
behind b more = first_of (line 11 (not (ltb b d.processors)) ∷ more d)

on_D : (b : ℕ) (more : Plan → List Line) → first_of (board_lines row_d 0 b ++ more (recipe row_d 0)) ≡ behind b more
on_D b more =
    ap first_of (append_assoc (lines_for (route_of 0) row_d) (line 11 (not (ltb b (recipe row_d 0).processors)) ∷ []) (more (recipe row_d 0)))
    ∙ first_behind (lines_for (route_of 0) row_d) (line 11 (not (ltb b (recipe row_d 0).processors)) ∷ more (recipe row_d 0)) (numbered_for (route_of 0) row_d)
    (open_direct row_d number_d)
    ∙ ap (λ (p : Plan). first_of (line 11 (not (ltb b p.processors)) ∷ more p)) plan_D

-- the lines behind them, call by call
abbrev message_lines : ℕ → List ℕ → Plan → List Line
message_lines b out p = line 9 (not (eqb (length out) (7 * length (handled p b)))) ∷ []

abbrev fresh_lines : State → ℕ → Plan → List Line
fresh_lines s b p = line 9 (not (part_fits p b s)) ∷ []

abbrev turning_lines : List ℕ → State → ℕ → Plan → List Line
turning_lines bed s b p = line 9 (not (eqb (length bed) (length (own_cells p b)) and part_fits p b s)) ∷ turn_lines p (from_part p b s) b

abbrev post_lines : State → ℕ → ℕ → Plan → List Line
post_lines s b m p = line 9 (not (part_fits p b s)) ∷ deliver_lines p (from_part p b s) m

abbrev arrive_lines : State → ℕ → ℕ → List ℕ → Plan → List Line
arrive_lines s b m words p =
    line 9 (not (part_fits p b s and as_long p m words)) ∷ line 10 (not (fit p (from_part p b s))) ∷ line 11 (not (taken_by p b m))
    ∷ line 14 (not (eqb (get_or (from_part p b s).status m 0) 0)) ∷ []

abbrev collect_lines : State → ℕ → List ℕ → Plan → List Line
collect_lines s b old p =
    line 9 (not (collect_fits p b s old)) ∷ line 10 (not (fit_record p (from_part p b s) b)) ∷ line 15 (tiles_left p (from_part p b s) b) ∷ []

-- a call's number
unfoldable messages_on : ℕ → List ℕ → ℕ
messages_on b out = behind b (message_lines b out)

unfoldable fresh_on : State → ℕ → ℕ
fresh_on s b = behind b (fresh_lines s b)

unfoldable turn_on : List ℕ → State → ℕ → ℕ
turn_on bed s b = behind b (turning_lines bed s b)

unfoldable post_on : State → ℕ → ℕ → ℕ
post_on s b m = behind b (post_lines s b m)

unfoldable arrive_on : State → ℕ → ℕ → List ℕ → ℕ
arrive_on s b m words = behind b (arrive_lines s b m words)

unfoldable collect_on : State → ℕ → List ℕ → ℕ
collect_on s b old = behind b (collect_lines s b old)

messages_is : (b : ℕ) (out : List ℕ) → (part_messages_call row_d 0 b out).number ≡ messages_on b out
unfolding part_messages_call messages_on
messages_is b out = on_D b (message_lines b out)

fresh_is : (s : State) (b : ℕ) → (part_fresh_call row_d 0 s b).number ≡ fresh_on s b
unfolding part_fresh_call fresh_on
fresh_is s b = on_D b (fresh_lines s b)

turn_is : (bed : List ℕ) (s : State) (b : ℕ) → (part_turn_call row_d 0 bed s b).number ≡ turn_on bed s b
unfolding part_turn_call turn_on
turn_is bed s b = on_D b (turning_lines bed s b)

post_is : (s : State) (b m : ℕ) → posted s b m ≡ post_on s b m
unfolding part_post_call post_on
post_is s b m = on_D b (post_lines s b m)

arrive_is : (s : State) (b m : ℕ) (words : List ℕ) → arrived s b m words ≡ arrive_on s b m words
unfolding part_arrive_call arrive_on
arrive_is s b m words = on_D b (arrive_lines s b m words)

collect_is : (s : State) (b : ℕ) (old : List ℕ) → collected s b old ≡ collect_on s b old
unfolding part_collect_call collect_on
collect_is s b old = on_D b (collect_lines s b old)

messagess_computed : (messages_on 2 [] ≡ 11)
    × (messages_on 1 [] ≡ 9)
unfolding messages_on fresh_on turn_on post_on arrive_on collect_on collect_fits part_fits sublist.part_of member owns keeps handles words_of put_mail widened fresh
    set_progress unpack
    waiting all_at shaped_cells first_of not ◌and◌ ◌or◌ pick every some keep those product offset sublist put tiles_left fit_record fit tile_count cells box_tiles
    processors rank place
    cell_at cell_place tile_at tile_place box_tile_of level raised meets in_shape exists existing tiles inside directions ahead reaches taker messages_of box_tile
    reaches_shape shaped_parcel follows shaped_taker shaped_slot_taker shaped_home shaped_slot_parcel processor_of
messagess_computed = (refl, refl)

freshs_computed : (fresh_on short 2 ≡ 11)
    × (fresh_on short 1 ≡ 9)
    × (fresh_on unfit 1 ≡ 0)
unfolding messages_on fresh_on turn_on post_on arrive_on collect_on collect_fits part_fits sublist.part_of member owns keeps handles words_of put_mail widened fresh
    set_progress unpack
    waiting all_at shaped_cells first_of not ◌and◌ ◌or◌ pick every some keep those product offset sublist put tiles_left fit_record fit tile_count cells box_tiles
    processors rank place
    cell_at cell_place tile_at tile_place box_tile_of level raised meets in_shape exists existing tiles inside directions ahead reaches taker messages_of box_tile
    reaches_shape shaped_parcel follows shaped_taker shaped_slot_taker shaped_home shaped_slot_parcel processor_of
freshs_computed = (refl, refl, refl)

turns_computed : (turn_on source short 2 ≡ 11)
    × (turn_on source short 1 ≡ 9)
    × (turn_on (5 ∷ []) unfit 1 ≡ 9)
    × (turn_on source unfit 1 ≡ 10)
    × (turn_on source (part_of 1 0 4) 1 ≡ 10)
    × (turn_on source (part_of 0 0 1) 1 ≡ 12)
    × (turn_on source (part_of 1 0 1) 1 ≡ 13)
    × (turn_on source (part_of 0 0 2) 1 ≡ 0)
unfolding messages_on fresh_on turn_on post_on arrive_on collect_on collect_fits part_fits sublist.part_of member owns keeps handles words_of put_mail widened fresh
    set_progress unpack
    waiting all_at shaped_cells first_of not ◌and◌ ◌or◌ pick every some keep those product offset sublist put tiles_left fit_record fit tile_count cells box_tiles
    processors rank place
    cell_at cell_place tile_at tile_place box_tile_of level raised meets in_shape exists existing tiles inside directions ahead reaches taker messages_of box_tile
    reaches_shape shaped_parcel follows shaped_taker shaped_slot_taker shaped_home shaped_slot_parcel processor_of
turns_computed = (refl, refl, refl, refl, refl, refl, refl, refl)

posts_computed : (post_on short 2 0 ≡ 11)
    × (post_on short 1 0 ≡ 9)
    × (post_on (sender_part 4) 0 1 ≡ 10)
    × (post_on (sender_part 1) 0 1 ≡ 11)
    × (post_on (sender_part 0) 0 0 ≡ 14)
    × (post_on (sender_part 2) 0 0 ≡ 14)
    × (post_on (sender_part 1) 0 0 ≡ 0)
unfolding messages_on fresh_on turn_on post_on arrive_on collect_on collect_fits part_fits sublist.part_of member owns keeps handles words_of put_mail widened fresh
    set_progress unpack
    waiting all_at shaped_cells first_of not ◌and◌ ◌or◌ pick every some keep those product offset sublist put tiles_left fit_record fit tile_count cells box_tiles
    processors rank place
    cell_at cell_place tile_at tile_place box_tile_of level raised meets in_shape exists existing tiles inside directions ahead reaches taker messages_of box_tile
    reaches_shape shaped_parcel follows shaped_taker shaped_slot_taker shaped_home shaped_slot_parcel processor_of
posts_computed = (refl, refl, refl, refl, refl, refl, refl)

arrives_computed : (arrive_on short 2 0 (7 ∷ []) ≡ 11)
    × (arrive_on short 1 0 (7 ∷ []) ≡ 9)
    × (arrive_on unfit 1 0 [] ≡ 9)
    × (arrive_on (sender_part 4) 0 0 (7 ∷ []) ≡ 10)
    × (arrive_on (sender_part 1) 0 0 (7 ∷ []) ≡ 11)
    × (arrive_on (part_of 0 0 2) 1 0 (7 ∷ []) ≡ 14)
    × (arrive_on (part_of 0 0 0) 1 0 (7 ∷ []) ≡ 0)
unfolding messages_on fresh_on turn_on post_on arrive_on collect_on collect_fits part_fits sublist.part_of member owns keeps handles words_of put_mail widened fresh
    set_progress unpack
    waiting all_at shaped_cells first_of not ◌and◌ ◌or◌ pick every some keep those product offset sublist put tiles_left fit_record fit tile_count cells box_tiles
    processors rank place
    cell_at cell_place tile_at tile_place box_tile_of level raised meets in_shape exists existing tiles inside directions ahead reaches taker messages_of box_tile
    reaches_shape shaped_parcel follows shaped_taker shaped_slot_taker shaped_home shaped_slot_parcel processor_of
arrives_computed = (refl, refl, refl, refl, refl, refl, refl)

collects_computed : (collect_on short 2 [] ≡ 11)
    × (collect_on short 1 grid ≡ 9)
    × (collect_on (part_of 0 3 0) 1 [] ≡ 9)
    × (collect_on (part_of 0 3 0) 1 grid ≡ 10)
    × (collect_on (part_of 0 0 0) 1 grid ≡ 15)
    × (collect_on (part_of 1 0 4) 1 grid ≡ 0)
unfolding messages_on fresh_on turn_on post_on arrive_on collect_on collect_fits part_fits sublist.part_of member owns keeps handles words_of put_mail widened fresh
    set_progress unpack
    waiting all_at shaped_cells first_of not ◌and◌ ◌or◌ pick every some keep those product offset sublist put tiles_left fit_record fit tile_count cells box_tiles
    processors rank place
    cell_at cell_place tile_at tile_place box_tile_of level raised meets in_shape exists existing tiles inside directions ahead reaches taker messages_of box_tile
    reaches_shape shaped_parcel follows shaped_taker shaped_slot_taker shaped_home shaped_slot_parcel processor_of
collects_computed = (refl, refl, refl, refl, refl, refl)

refused : ((part_turn_call [] 0 [] short 2).number ≡ 1) × ((part_turn_call row_triangle 1 [] short 2).number ≡ 21)
unfolding part_turn_call first_of ◌and◌ ◌or◌ not pick every some keep those tabulate product rank place cell_place tile_at box_tile_of tile_count cells box_tiles
    processors
    level raised meets in_shape exists existing tiles of_kind filled nest_by nest_of ragged blank bound_fits checked may_stand fits_at well_formed stray_record no_length
    bad_length too_large needlessly_wide no_cell same beyond faulty bad_distance reached bad_tile bad_spread last_spread bad_processors too_many_tiles nest_lines
    read_lines route_of indirect lines_for
refused = (refl, refl)

pub part_rows : PartNumbers
part_rows =
    record {
      reader_first = refused.0;
      route_first = refused.1;
      messages_processor = messages_is 2 [] ∙ messagess_computed.0;
      messages_long = messages_is 1 [] ∙ messagess_computed.1;
      fresh_processor = fresh_is short 2 ∙ freshs_computed.0;
      fresh_long = fresh_is short 1 ∙ freshs_computed.1;
      fresh_unfit = fresh_is unfit 1 ∙ freshs_computed.2;
      turn_processor = turn_is source short 2 ∙ turns_computed.0;
      turn_long = turn_is source short 1 ∙ turns_computed.1;
      turn_source = turn_is (5 ∷ []) unfit 1 ∙ turns_computed.2;
      turn_unfit = turn_is source unfit 1 ∙ turns_computed.3;
      turn_over_unfit = turn_is source (part_of 1 0 4) 1 ∙ turns_computed.4;
      turn_waits = turn_is source (part_of 0 0 1) 1 ∙ turns_computed.5;
      turn_over = turn_is source (part_of 1 0 1) 1 ∙ turns_computed.6;
      turn_takes = turn_is source (part_of 0 0 2) 1 ∙ turns_computed.7;
      post_processor = post_is short 2 0 ∙ posts_computed.0;
      post_long = post_is short 1 0 ∙ posts_computed.1;
      post_unfit = post_is (sender_part 4) 0 1 ∙ posts_computed.2;
      post_message = post_is (sender_part 1) 0 1 ∙ posts_computed.3;
      post_unsent = post_is (sender_part 0) 0 0 ∙ posts_computed.4;
      post_again = post_is (sender_part 2) 0 0 ∙ posts_computed.5;
      post_takes = post_is (sender_part 1) 0 0 ∙ posts_computed.6;
      arrive_processor = arrive_is short 2 0 (7 ∷ []) ∙ arrives_computed.0;
      arrive_long = arrive_is short 1 0 (7 ∷ []) ∙ arrives_computed.1;
      arrive_words = arrive_is unfit 1 0 [] ∙ arrives_computed.2;
      arrive_unfit = arrive_is (sender_part 4) 0 0 (7 ∷ []) ∙ arrives_computed.3;
      arrive_other = arrive_is (sender_part 1) 0 0 (7 ∷ []) ∙ arrives_computed.4;
      arrive_again = arrive_is (part_of 0 0 2) 1 0 (7 ∷ []) ∙ arrives_computed.5;
      arrive_takes = arrive_is (part_of 0 0 0) 1 0 (7 ∷ []) ∙ arrives_computed.6;
      collect_processor = collect_is short 2 [] ∙ collects_computed.0;
      collect_long = collect_is short 1 grid ∙ collects_computed.1;
      collect_grid = collect_is (part_of 0 3 0) 1 [] ∙ collects_computed.2;
      collect_unfit = collect_is (part_of 0 3 0) 1 grid ∙ collects_computed.3;
      collect_early = collect_is (part_of 0 0 0) 1 grid ∙ collects_computed.4;
      collect_marks = collect_is (part_of 1 0 4) 1 grid ∙ collects_computed.5;
    }
