-- Row D for two tenants and with hours, computed on the machine's plan of it; and by the theorems what the exported calls give.
use Prim.Native.Nat.{ℕ, ◌≤◌}
use mathlib.Core.Path.{◌≡◌, refl, sym, ap, ◌∙◌, subst}
use mathlib.Core.Bool.{true}
use mathlib.Core.List.{List, [], ◌∷◌}
use native.Mathlib.Omega.{arith}
use lib.ListN.{length}
use borrow.Author.Tests.{eq-eqb}
use Rattle.base.specs.Tests.{◌and◌, ◌or◌, not, pick, one, every, some, keep, those, product, sum, tabulate}
use Rattle.base.specs.Lists.{Bytes, count_if, member, sublist, put, set_all, all_at, unpack, pack, store_all}
use Rattle.base.specs.Numbers.{line, first_of}
use Rattle.base.proofs.Tests.{and_true, not-true}
use Rattle.base.proofs.Numbers.{first_behind, first_false}
use Rattle.base.proofs.Lists.{small, small_bytes}
use Rattle.machine.specs.Plan.{Plan, Sound, offset}
use Rattle.machine.specs.Machine.{State, Answered, answered, set_progress, tiles_left, fit_record, fit, unpack_all, after_sends, carry_out, next_action, action_at}
use Rattle.machine.specs.Machine.{waiting, deliver, fresh, sweep_to, sweep}
use Rattle.machine.specs.Runs.{act, state_after, answers_to, total, steps_in}
use Rattle.machine.proofs.Kept.{Inv}
use Rattle.machine.proofs.Fresh.{inv_fresh}
use Rattle.machine.proofs.Along.{next_inv}
use Rattle.machine.proofs.RunLaws.{number_of, after_of, same_numbers}
use Rattle.machine.proofs.Guards.{good_after}
use Rattle.tenants.specs.Tenants.{stage_agrees, fit_word, fit_for, held_by_other, freed_after, engaged_after, carry_out_for, turn_for, deliver_for, act_for, act_on}
use Rattle.tenants.specs.Tenants.{of_tenant, Sharing, source_for, returned, fresh_sharing}
use Rattle.tenants.specs.Demand208.{answers_of}
use Rattle.tenants.proofs.Engaged.{SharingInv, inv_start, inv_next}
use Rattle.calendar.specs.Windows.{is_window, is_faulty, covers, faulty_board, faulty_table, faulty_minute, open_at, faulty_for, closed, table_words, Timed, turn_at}
use Rattle.calendar.specs.Windows.{mail_of, event_of, timed_turn, turn_lines_at, act_at, Moment}
use Rattle.calendar.proofs.Allowed.{Allowed, guards}
use Rattle.nest.specs.Nest.{tile_count, cells, box_tiles, processors}
use Rattle.nest.specs.Places.{rank, place, cell_at, cell_place, tile_at, tile_place, box_tile_of}
use Rattle.nest.specs.Shape.{level, raised, meets, in_shape, exists, existing, tiles}
use Rattle.nest.specs.Recipes.{row_d}
use Rattle.plan.specs.declared.Route.TheVariants.{Direct}
use Rattle.plan.specs.Geometry.{processor_of, inside, has_read, read_at}
use Rattle.plan.specs.Messages.{directions, ahead, reaches, taker, messages_of}
use Rattle.plan.specs.Shaped.{box_tile, reaches_shape, shaped_parcel, follows, shaped_taker, shaped_slot_taker, shaped_home, shaped_slot_parcel, plan_of}
use Rattle.plan.specs.Shaped.{shaped_cells, reads_shape, shaped_value}
use Rattle.conformance.proofs.RowNests.{nest_d, is_d}
use Rattle.conformance.proofs.AToH.{number_d}
use Rattle.layout.specs.RouteWords.{route_of}
use Rattle.recipe.specs.Routes.{lines_for}
use Rattle.recipe.proofs.Laws.{open_direct, numbered_for}
use Rattle.engine.specs.Calls.{recipe, areas}
use Rattle.engine.proofs.AsRuns.{inv_areas}
use Rattle.engine.proofs.AsSteps.{deliver_is}
use Rattle.engine.proofs.Demands.{demands}
use Rattle.sharing.specs.Calls.{sharing_calls}
use Rattle.sharing.proofs.AsRuns.{alike, fresh_sources, fresh_is}
use Rattle.sharing.proofs.Demands.{sound_plan}
use Rattle.calendar_calls.specs.Calls.{table_long, turn_call_at, calls_at}
use Rattle.calls.specs.Gave.{Areas, in_words, SharingAreas, sharing_words, FreshGave, CollectGave, FreshBothGave, TimedGave}
use Rattle.guarantees.specs.OverRecords.{Gave}
use Rattle.guarantees.specs.OverSharing.{CallsGave, CollectGaveFor, SharingRun}
use Rattle.guarantees.specs.OverCalendar.{TimedRun}
use Rattle.guarantees.specs.RowD.{sources_d, calls_d, numbers_d, events_d, timed_numbers_d, RowD}
use Rattle.guarantees.proofs.OverSharing.{over_sharing}
use Rattle.guarantees.proofs.OverCalendar.{over_hours}

-- ---- the row's plan
abbrev pub p : Plan
p = recipe row_d 0

abbrev pub d : Plan
d = plan_of Direct nest_d

pub plan_D : recipe row_d 0 ≡ plan_of Direct nest_d
unfolding route_of
plan_D = ap (plan_of Direct) is_d

pub bytes_D : Bytes row_d
unfolding small ◌and◌
bytes_D = small_bytes row_d refl

pub open_D : first_of (lines_for (route_of 0) row_d) ≡ 0
open_D = open_direct row_d number_d

pub sound_D : Sound p
sound_D = sound_plan row_d 0 bytes_D open_D

cells_d : 4 ≡ d.cells
unfolding product cells
cells_d = refl

pub cells_D : 4 ≡ p.cells
cells_D = cells_d ∙ sym (ap (λ (q : Plan). q.cells) plan_D)

six_d : total d ≡ 6
unfolding first_of not member offset sum ◌and◌ ◌or◌ pick every some keep those product tile_count cells box_tiles rank place cell_at cell_place tile_at tile_place
    box_tile_of level raised meets in_shape exists existing tiles inside directions ahead reaches taker messages_of box_tile reaches_shape shaped_parcel follows
    shaped_taker shaped_slot_taker shaped_home shaped_slot_parcel shaped_cells processor_of processors
six_d = refl

six : total p ≡ 6
six = ap total plan_D ∙ six_d

sweep_first : sweep d sources_d.first ≡ 4 ∷ 9 ∷ 14 ∷ 20 ∷ []
unfolding sweep_to shaped_value reads_shape has_read read_at sum ◌and◌ ◌or◌ pick every some keep product rank place cell_at cell_place tile_at tile_place box_tile_of
    tile_count cells box_tiles level raised meets in_shape exists existing tiles
sweep_first = refl

sweep_second : sweep d sources_d.second ≡ 1 ∷ 2 ∷ 3 ∷ 4 ∷ []
unfolding sweep_to shaped_value reads_shape has_read read_at sum ◌and◌ ◌or◌ pick every some keep product rank place cell_at cell_place tile_at tile_place box_tile_of
    tile_count cells box_tiles level raised meets in_shape exists existing tiles
sweep_second = refl

-- ---- two tenants
sharing_d : answers_to (act_on d sources_d) (fresh_sharing d) calls_d ≡ numbers_d
unfolding answers_to state_after stage_agrees fit_word fit_for held_by_other freed_after engaged_after carry_out_for turn_for deliver_for act_for act_on of_tenant returned
    fresh_sharing first_of not one member offset sublist put set_all all_at unpack pack store_all set_progress tiles_left fit_record fit unpack_all after_sends carry_out
    action_at waiting fresh shaped_value reads_shape has_read read_at sum ◌and◌ ◌or◌ pick every some keep those product tile_count cells box_tiles rank place cell_at
    cell_place tile_at tile_place box_tile_of level raised meets in_shape exists existing tiles inside directions ahead reaches taker messages_of box_tile
    reaches_shape shaped_parcel follows shaped_taker shaped_slot_taker shaped_home shaped_slot_parcel shaped_cells processor_of processors
sharing_d = refl

sharing_D : answers_to (act_on p sources_d) (fresh_sharing p) calls_d ≡ numbers_d
sharing_D = subst (λ (q : Plan). answers_to (act_on q sources_d) (fresh_sharing q) calls_d ≡ numbers_d) (sym plan_D) sharing_d

steps_first : steps_in (answers_of 0 calls_d numbers_d) ≡ 6
unfolding answers_of pick count_if one
steps_first = refl

steps_second : steps_in (answers_of 1 calls_d numbers_d) ≡ 6
unfolding answers_of pick count_if one
steps_second = refl

module _ (a start b : SharingAreas) (numbers : List ℕ) (f : FreshBothGave row_d 0 sources_d a 0 start) (g : CallsGave row_d 0 sources_d start calls_d numbers b)
  where
    run : SharingRun row_d 0 sources_d start calls_d numbers b
    run = (over_sharing row_d 0).three bytes_D sources_d a start b calls_d numbers f g

    start_is : sharing_words start ≡ fresh_sharing p
    start_is = after_of f ∙ fresh_is row_d 0 sources_d (sharing_words a) (sym (number_of f))

    tenants : numbers ≡ numbers_d
    tenants =
        run.numbers_are ∙ ap (λ (r : Sharing). answers_to (sharing_calls row_d 0 sources_d) r calls_d) start_is
        ∙ same_numbers (SharingInv p sources_d) (sharing_calls row_d 0 sources_d) (act_on p sources_d)
        (alike row_d 0 sources_d open_D (fresh_sources row_d 0 sources_d (sharing_words a) (sym (number_of f)))) (inv_next p sound_D sources_d) calls_d (fresh_sharing p)
        (inv_start p sources_d)
        ∙ sharing_D

    collected : (o : ℕ) → o ≤ 1 → steps_in (answers_of o calls_d numbers_d) ≡ 6 → (l : List ℕ) → sweep d (source_for sources_d o) ≡ l → (old grid : List ℕ) (n : ℕ)
        → length old ≡ 4 → CollectGaveFor row_d 0 sources_d b o old n grid → (n ≡ 0) × (grid ≡ l)
    collected o low six-steps l swept old grid n long h = (
      z,
      run.grid o low old grid (subst (λ (k : ℕ). CollectGaveFor row_d 0 sources_d b o old k grid) z h)
          ∙ ap (λ (q : Plan). sweep q (source_for sources_d o)) plan_D ∙ swept,
    )
      where
        all : steps_in (answers_of o calls_d numbers) ≡ total p
        all = ap (λ (ns : List ℕ). steps_in (answers_of o calls_d ns)) tenants ∙ six-steps ∙ sym six

        z : n ≡ 0
        z = (run.collects o low old grid n (long ∙ cells_D) h).1 all

first_is : sweep d (source_for sources_d 0) ≡ 4 ∷ 9 ∷ 14 ∷ 20 ∷ []
unfolding of_tenant pick
first_is = sweep_first

second_is : sweep d (source_for sources_d 1) ≡ 1 ∷ 2 ∷ 3 ∷ 4 ∷ []
unfolding of_tenant pick
second_is = sweep_second

-- ---- with hours
abbrev source : List ℕ
source = sources_d.first

hours_d : answers_to (act_at d source) (fresh d) events_d ≡ timed_numbers_d
unfolding answers_to state_after timed_turn act_at is_window is_faulty covers faulty_board faulty_table faulty_minute open_at faulty_for closed deliver first_of not one
    member offset sublist put set_all all_at unpack pack store_all set_progress tiles_left fit_record fit unpack_all after_sends carry_out action_at waiting fresh
    shaped_value reads_shape has_read read_at sum ◌and◌ ◌or◌ pick every some keep those product tile_count cells box_tiles rank place cell_at cell_place tile_at
    tile_place box_tile_of level raised meets in_shape exists existing tiles inside directions ahead reaches taker messages_of box_tile reaches_shape shaped_parcel
    follows shaped_taker shaped_slot_taker shaped_home shaped_slot_parcel shaped_cells processor_of processors
hours_d = refl

hours_D : answers_to (act_at p source) (fresh p) events_d ≡ timed_numbers_d
hours_D = subst (λ (q : Plan). answers_to (act_at q source) (fresh q) events_d ≡ timed_numbers_d) (sym plan_D) hours_d

-- each turn is lent a table of its length
abbrev Long : List Timed → Type 0
Long [] = Unit {0}
Long (turn_at h b ∷ es) = (length h.calendar ≡ table_words p) × Long es
Long (mail_of m ∷ es) = Long es

timed_is : (s : State) → Inv p source s → (h : Moment) (b : ℕ) → length h.calendar ≡ table_words p → turn_call_at row_d 0 source h s b ≡ timed_turn p source h s b
unfolding turn_call_at timed_turn
timed_is s inv h b e =
    ap (λ (k : ℕ). answered k (carry_out p source s b (next_action p s b)) s)
    (first_behind (lines_for (route_of 0) row_d) (line 9 (not (areas p source s and table_long p h)) ∷ turn_lines_at p h s b) (numbered_for (route_of 0) row_d) open_D
    ∙ first_false 9 (not (areas p source s and table_long p h)) (turn_lines_at p h s b)
    (not-true (and_true (inv_areas row_d 0 source open_D sound_D cells_D s inv) (eq-eqb _ _ e))))

timed_next : (s : State) → Inv p source s → (x : Timed) → Inv p source (act_at p source s x).after
timed_next s inv x = good_after (Inv p source) (act p source) (act_at p source) event_of (Allowed p) (guards p source) (next_inv p sound_D source) s inv x

timed_same : (es : List Timed) (s : State) → Inv p source s → Long es → answers_to (calls_at row_d 0 source) s es ≡ answers_to (act_at p source) s es
unfolding answers_to calls_at act_at
timed_same [] s inv l = refl
timed_same (turn_at h b ∷ es) s inv l =
    ap (λ (x : Answered State). x.number ∷ answers_to (calls_at row_d 0 source) x.after es) (timed_is s inv h b l.0)
    ∙ ap (λ (ns : List ℕ). (timed_turn p source h s b).number ∷ ns) (timed_same es _ (timed_next s inv (turn_at h b)) l.1)
timed_same (mail_of m ∷ es) s inv l =
    ap (λ (x : Answered State). x.number ∷ answers_to (calls_at row_d 0 source) x.after es)
    (deliver_is row_d 0 source s open_D (inv_areas row_d 0 source open_D sound_D cells_D s inv) m)
    ∙ ap (λ (ns : List ℕ). (deliver p s m).number ∷ ns) (timed_same es _ (timed_next s inv (mail_of m)) l)

words_d : 56 ≡ table_words d
unfolding sum ◌and◌ ◌or◌ pick every some keep those product tile_count cells box_tiles processors
words_d = refl

words_D : 56 ≡ table_words p
words_D = words_d ∙ sym (ap table_words plan_D)

all_long : Long events_d
all_long =
    (words_D, (words_D, (words_D, (words_D, (words_D, (words_D, (words_D, (words_D, (words_D, (words_D, (words_D, (words_D, tt))))))))))))

steps_hours : steps_in timed_numbers_d ≡ 6
unfolding count_if one
steps_hours = refl

module _ (a start b : Areas) (numbers : List ℕ) (f : FreshGave row_d 0 source a 0 start) (g : Gave (TimedGave row_d 0 source) start events_d numbers b) where
  timed_run : TimedRun row_d 0 source start events_d numbers b
  timed_run = (over_hours row_d 0).three bytes_D source a start b events_d numbers f g

  timed_start : in_words start ≡ fresh p
  timed_start = after_of f ∙ (demands.one row_d 0 source (in_words a)).fresh.works (sym (number_of f))

  hours : numbers ≡ timed_numbers_d
  hours =
      timed_run.numbers_are ∙ ap (λ (s : State). answers_to (calls_at row_d 0 source) s events_d) timed_start
      ∙ timed_same events_d (fresh p) (inv_fresh p source) all_long ∙ hours_D

  hours_grid : (old grid : List ℕ) (n : ℕ) → length old ≡ 4 → CollectGave row_d 0 source b old n grid → (n ≡ 0) × (grid ≡ 4 ∷ 9 ∷ 14 ∷ 20 ∷ [])
  hours_grid old grid n long h = (
    z,
    timed_run.grid old grid (subst (λ (k : ℕ). CollectGave row_d 0 source b old k grid) z h)
        ∙ ap (λ (q : Plan). sweep q source) plan_D ∙ sweep_first,
  )
    where
      z : n ≡ 0
      z = (timed_run.collects old grid n (long ∙ cells_D) h).1 (ap steps_in hours ∙ steps_hours ∙ sym six)

pub row_D : RowD
row_D =
    record {
      tenants = tenants;
      first_grid = λ a start b numbers f g. collected a start b numbers f g 0 (omega arith) steps_first _ first_is;
      second_grid = λ a start b numbers f g. collected a start b numbers f g 1 (omega arith) steps_second _ second_is;
      hours = hours;
      hours_grid = hours_grid;
    }
