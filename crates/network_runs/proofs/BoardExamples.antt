-- The row computed on the machine's boards, and by the theorem what the calls give; the premises of Boards are met by it.
use Prim.Native.Nat.{ℕ}
use mathlib.Core.Path.{◌≡◌, refl, sym, ap, ◌∙◌, subst}
use mathlib.Core.List.{List, [], ◌∷◌}
use native.Mathlib.Omega.{arith}
use lib.ListN.{length}
use lib.Dec.{eqb}
use Rattle.base.specs.Tests.{◌and◌, ◌or◌, not, pick, one, every, some, keep, those, product, sum}
use Rattle.base.specs.Lists.{Bytes, count_if, member, sublist, put, set_all, all_at, unpack, pack, store_all}
use Rattle.base.specs.Numbers.{first_of}
use Rattle.base.proofs.Lists.{small, small_bytes}
use Rattle.machine.specs.Plan.{Plan, Sound, offset}
use Rattle.machine.specs.Machine.{State, set_progress, tiles_left, fit_record, fit, unpack_all, after_sends, carry_out, action_at, waiting, turn, deliver, fresh}
use Rattle.machine.specs.Machine.{Answered}
use Rattle.machine.specs.Runs.{state_after, answers_to}
use Rattle.nest.specs.Nest.{tile_count, cells, box_tiles, processors}
use Rattle.nest.specs.Places.{rank, place, cell_at, cell_place, tile_at, tile_place, box_tile_of}
use Rattle.nest.specs.Shape.{level, raised, meets, in_shape, exists, existing, tiles}
use Rattle.nest.specs.Recipes.{row_d}
use Rattle.plan.specs.declared.Route.TheVariants.{Direct}
use Rattle.plan.specs.Geometry.{processor_of, inside, has_read, read_at}
use Rattle.plan.specs.Messages.{directions, ahead, reaches, taker, messages_of}
use Rattle.plan.specs.Shaped.{box_tile, reaches_shape, shaped_parcel, follows, shaped_taker, shaped_slot_taker, shaped_home, shaped_slot_parcel, plan_of}
use Rattle.plan.specs.Shaped.{shaped_cells, reads_shape, shaped_value}
use Rattle.conformance.proofs.RowNests.{nest_d, is_d}
use Rattle.conformance.proofs.AToH.{number_d}
use Rattle.layout.specs.RouteWords.{route_of}
use Rattle.recipe.specs.Routes.{lines_for}
use Rattle.recipe.proofs.Laws.{open_direct}
use Rattle.engine.specs.Calls.{recipe}
use Rattle.network.specs.Apart.{start_apart, replaced}
use Rattle.network.specs.Packets.{Packet, Network, start_network}
use Rattle.network.specs.Brought.{BoardEvent, turn_at, post_at, brought_to, BoardCalls, act_boards, take_in, machine_boards, WasPosted, Carries}
use Rattle.network.specs.OnBoards.{whole}
use Rattle.network.proofs.Network.{Follows, start_follows}
use Rattle.network.proofs.Brought.{Away, Honest, ran, carries_none, carries_next, carries_alone, carries_first, carries_rest}
use Rattle.network.proofs.OnBoards.{Seen, Answers, mirrored}
use Rattle.part_calls.specs.front.Calls.{to_part}
use Rattle.network_runs.specs.Calls.{start_network_calls}
use Rattle.network_runs.specs.Demands.{Begun}
use Rattle.network_runs.specs.part.Runs.{part_start}
use Rattle.network_runs.specs.part.Demands.{BegunApart}
use Rattle.network_runs.specs.Boards.{whole_calls, whole_boards, part_calls, part_boards}
use Rattle.network_runs.specs.BoardExamples.{source_d, whole_sources, part_sources, whole_lent, part_lent, posting, events_d, numbers_d, BoardExamples}
use Rattle.network_runs.proofs.Demands as whole_run
use Rattle.network_runs.proofs.Demands.{apart_demands}
use Rattle.network_runs.proofs.part.Demands.{own_demands}
use Rattle.network_runs.proofs.Boards.{so, whole_alike, begins, part_alike, part_begins, no_packets}

-- ---- what the machine's boards carry, calls that answer alike carry
module _ (p : Plan) (sn : Sound p) (away : Away p) (source : List ℕ) (view : ℕ → State → State) (c : BoardCalls)
    (alike : (s : State) (n : Network) → Follows p source s n → Answers p source view c n.areas) where
  carries_back : (es : List BoardEvent) (s : State) (n o : Network) → Follows p source s n → o.packets ≡ n.packets → Seen p view n.areas o.areas
      → Carries (machine_boards p source) n es → Carries (act_boards p.processors c) o es
  unfolding state_after
  carries_back [] s n o fo same v k = carries_none _ o
  carries_back (e ∷ es) s n o fo same v k =
      let h = carries_first (machine_boards p source) n e es k in
      let h' = subst (λ (l : List Packet). Honest l e) (sym same) h in
      let r = ran p sn away source (e ∷ []) s n fo (carries_alone (machine_boards p source) n e h) in
      let m = mirrored p sn away source view c alike (e ∷ []) s n o fo same v (carries_alone (act_boards p.processors c) o e h') in
      carries_next (act_boards p.processors c) o e es h'
      (carries_back es r.state _ _ r.follows m.packets m.seen (carries_rest (machine_boards p source) n e es k))

-- ---- the machine's boards
plan_D : recipe row_d 0 ≡ plan_of Direct nest_d
unfolding route_of
plan_D = ap (plan_of Direct) is_d

abbrev d : Plan
d = plan_of Direct nest_d

numbers_d_lem : answers_to (machine_boards d source_d) (start_network d) events_d ≡ numbers_d
unfolding answers_to state_after act_boards take_in turn deliver start_apart replaced first_of not member offset sublist put set_all all_at unpack pack store_all
    set_progress tiles_left fit_record fit unpack_all after_sends carry_out action_at waiting fresh shaped_value reads_shape has_read read_at sum ◌and◌ ◌or◌ pick every
    some keep those product tile_count cells box_tiles rank place cell_at cell_place tile_at tile_place box_tile_of level raised meets in_shape exists existing tiles
    inside directions ahead reaches taker messages_of box_tile reaches_shape shaped_parcel follows shaped_taker shaped_slot_taker shaped_home shaped_slot_parcel
    shaped_cells processor_of processors
numbers_d_lem = refl

-- ---- Brought.WasPosted and Brought.Carries
abbrev B : Network → BoardEvent → Answered Network
B = machine_boards d source_d

abbrev posted : Network
posted = state_after B (start_network d) posting

abbrev first : Network
first = (B posted (brought_to 0 0 (9 ∷ []))).after

abbrev second : Network
second = (B first (brought_to 2 0 (9 ∷ []))).after

abbrev third : Network
third = (B second (brought_to 1 0 (9 ∷ []))).after

was : WasPosted posted.packets 0 (9 ∷ [])
unfolding answers_to state_after act_boards take_in turn deliver start_apart replaced first_of not member offset sublist put set_all all_at unpack pack store_all
    set_progress tiles_left fit_record fit unpack_all after_sends carry_out action_at waiting fresh shaped_value reads_shape has_read read_at sum ◌and◌ ◌or◌ pick every
    some keep those product tile_count cells box_tiles rank place cell_at cell_place tile_at tile_place box_tile_of level raised meets in_shape exists existing tiles
    inside directions ahead reaches taker messages_of box_tile reaches_shape shaped_parcel follows shaped_taker shaped_slot_taker shaped_home shaped_slot_parcel
    shaped_cells processor_of processors
was = record { at = 0; low = omega arith; number = refl; words = refl }

was_first : WasPosted first.packets 0 (9 ∷ [])
unfolding answers_to state_after act_boards take_in turn deliver start_apart replaced first_of not member offset sublist put set_all all_at unpack pack store_all
    set_progress tiles_left fit_record fit unpack_all after_sends carry_out action_at waiting fresh shaped_value reads_shape has_read read_at sum ◌and◌ ◌or◌ pick every
    some keep those product tile_count cells box_tiles rank place cell_at cell_place tile_at tile_place box_tile_of level raised meets in_shape exists existing tiles
    inside directions ahead reaches taker messages_of box_tile reaches_shape shaped_parcel follows shaped_taker shaped_slot_taker shaped_home shaped_slot_parcel
    shaped_cells processor_of processors
was_first = record { at = 0; low = omega arith; number = refl; words = refl }

was_second : WasPosted second.packets 0 (9 ∷ [])
unfolding answers_to state_after act_boards take_in turn deliver start_apart replaced first_of not member offset sublist put set_all all_at unpack pack store_all
    set_progress tiles_left fit_record fit unpack_all after_sends carry_out action_at waiting fresh shaped_value reads_shape has_read read_at sum ◌and◌ ◌or◌ pick every
    some keep those product tile_count cells box_tiles rank place cell_at cell_place tile_at tile_place box_tile_of level raised meets in_shape exists existing tiles
    inside directions ahead reaches taker messages_of box_tile reaches_shape shaped_parcel follows shaped_taker shaped_slot_taker shaped_home shaped_slot_parcel
    shaped_cells processor_of processors
was_second = record { at = 0; low = omega arith; number = refl; words = refl }

was_third : WasPosted third.packets 0 (9 ∷ [])
unfolding answers_to state_after act_boards take_in turn deliver start_apart replaced first_of not member offset sublist put set_all all_at unpack pack store_all
    set_progress tiles_left fit_record fit unpack_all after_sends carry_out action_at waiting fresh shaped_value reads_shape has_read read_at sum ◌and◌ ◌or◌ pick every
    some keep those product tile_count cells box_tiles rank place cell_at cell_place tile_at tile_place box_tile_of level raised meets in_shape exists existing tiles
    inside directions ahead reaches taker messages_of box_tile reaches_shape shaped_parcel follows shaped_taker shaped_slot_taker shaped_home shaped_slot_parcel
    shaped_cells processor_of processors
was_third = record { at = 0; low = omega arith; number = refl; words = refl }

abbrev next : (n : Network) (e : BoardEvent) (es : List BoardEvent) → Honest n.packets e → Carries B (B n e).after es → Carries B n (e ∷ es)
next = carries_next B

carries_d : Carries B (start_network d) events_d
unfolding state_after
carries_d =
    next _ (turn_at 1) _ tt (next _ (turn_at 0) _ tt (next _ (turn_at 0) _ tt (next _ (post_at 0 0) _ tt (next _ (turn_at 0) _ tt (next _ (post_at 1 0) _ tt
    (next _ (post_at 0 0) _ tt (next _ (brought_to 0 0 (9 ∷ [])) _ was (next _ (brought_to 2 0 (9 ∷ [])) _ was_first
    (next _ (brought_to 1 0 (9 ∷ [])) _ was_second (next _ (brought_to 1 0 (9 ∷ [])) _ was_third
    (next _ (turn_at 1) _ tt (next _ (turn_at 1) _ tt (next _ (turn_at 1) _ tt (carries_none B _))))))))))))))

-- ---- of the recipe's bytes
abbrev p : Plan
p = recipe row_d 0

bytes_D : Bytes row_d
unfolding small ◌and◌
bytes_D = small_bytes row_d refl

accepted_D : first_of (lines_for (route_of 0) row_d) ≡ 0
accepted_D = open_direct row_d number_d

cells_d : 4 ≡ d.cells
unfolding product cells
cells_d = refl

long_D : length source_d ≡ p.cells
long_D = cells_d ∙ sym (ap (λ (q : Plan). q.cells) plan_D)

carries_D : Carries (machine_boards p source_d) (start_network p) events_d
carries_D = subst (λ (q : Plan). Carries (machine_boards q source_d) (start_network q) events_d) (sym plan_D) carries_d

numbers_D : answers_to (machine_boards p source_d) (start_network p) events_d ≡ numbers_d
numbers_D = subst (λ (q : Plan). answers_to (machine_boards q source_d) (start_network q) events_d ≡ numbers_d) (sym plan_D) numbers_d_lem

seven_d : whole d ≡ 7
unfolding first_of not member offset sum ◌and◌ ◌or◌ pick every some keep those product tile_count cells box_tiles rank place cell_at cell_place tile_at tile_place
    box_tile_of level raised meets in_shape exists existing tiles inside directions ahead reaches taker messages_of box_tile reaches_shape shaped_parcel follows
    shaped_taker shaped_slot_taker shaped_home shaped_slot_parcel shaped_cells processor_of processors
seven_d = refl

seven : whole p ≡ 7
seven = subst (λ (q : Plan). whole q ≡ 7) (sym plan_D) seven_d

away : Away p
away = whole_run.away row_d 0 bytes_D accepted_D

-- ---- by the calls on whole areas
begun_D : Begun row_d 0 source_d whole_sources whole_lent
begun_D = apart_demands.begins row_d 0 source_d bytes_D accepted_D long_D

sound_D : Sound p
sound_D = so row_d 0 source_d whole_sources whole_lent begun_D

carries_whole : Carries (whole_boards row_d 0 whole_sources) (start_network_calls row_d 0 whole_sources whole_lent) events_d
carries_whole =
    carries_back p sound_D away source_d (λ b s. s) (whole_calls row_d 0 whole_sources) (whole_alike row_d 0 source_d whole_sources whole_lent begun_D) events_d (fresh p)
    (start_network p) (start_network_calls row_d 0 whole_sources whole_lent) (start_follows p sound_D source_d) refl
    (begins row_d 0 source_d whole_sources whole_lent begun_D) carries_D

numbers_whole : answers_to (whole_boards row_d 0 whole_sources) (start_network_calls row_d 0 whole_sources whole_lent) events_d ≡ numbers_d
numbers_whole =
    (mirrored p sound_D away source_d (λ b s. s) (whole_calls row_d 0 whole_sources) (whole_alike row_d 0 source_d whole_sources whole_lent begun_D) events_d (fresh p)
    (start_network p) (start_network_calls row_d 0 whole_sources whole_lent) (start_follows p sound_D source_d) refl
    (begins row_d 0 source_d whole_sources whole_lent begun_D) carries_whole).numbers
    ∙ numbers_D

-- ---- and on own parts
begun_part : BegunApart row_d 0 source_d part_sources part_lent
begun_part = own_demands.begins row_d 0 source_d bytes_D accepted_D long_D part_lent (own_demands.can_fit row_d 0 source_d bytes_D accepted_D long_D)

carries_part : Carries (part_boards row_d 0 part_sources) (part_start row_d 0 part_lent) events_d
carries_part =
    carries_back p sound_D away source_d (to_part p) (part_calls row_d 0 part_sources) (part_alike row_d 0 source_d part_sources part_lent begun_part) events_d (fresh p)
    (start_network p) (part_start row_d 0 part_lent) (start_follows p sound_D source_d) (no_packets row_d 0 source_d part_sources part_lent begun_part)
    (part_begins row_d 0 source_d part_sources part_lent begun_part) carries_D

numbers_part : answers_to (part_boards row_d 0 part_sources) (part_start row_d 0 part_lent) events_d ≡ numbers_d
numbers_part =
    (mirrored p sound_D away source_d (to_part p) (part_calls row_d 0 part_sources) (part_alike row_d 0 source_d part_sources part_lent begun_part) events_d (fresh p)
    (start_network p) (part_start row_d 0 part_lent) (start_follows p sound_D source_d) (no_packets row_d 0 source_d part_sources part_lent begun_part)
    (part_begins row_d 0 source_d part_sources part_lent begun_part) carries_part).numbers
    ∙ numbers_D

steps_D : count_if (λ x. eqb x 0) numbers_d ≡ 7
unfolding count_if one
steps_D = refl

pub board_rows : BoardExamples
board_rows =
    record {
      begun = begun_D;
      carries = carries_whole;
      numbers = numbers_whole;
      begun_parts = begun_part;
      carries_parts = carries_part;
      numbers_parts = numbers_part;
      all_steps = seven;
      at_the_end = ap (count_if (λ x. eqb x 0)) numbers_whole ∙ steps_D ∙ sym seven;
    }
