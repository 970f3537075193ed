-- Lists that mix plain and timed turns, computed; each premise of AnyCalls is met by them, so no claim is about nothing: one tenant, and two.
use Prim.Native.Nat.{ℕ}
use mathlib.Core.Path.{◌≡◌, refl}
use mathlib.Core.Logic.{inl, inr}
use mathlib.Core.List.{List, [], ◌∷◌, ◌++◌}
use native.Mathlib.Omega.{arith}
use lib.ListN.{replicate}
use Rattle.base.specs.Tests.{◌and◌, ◌or◌, not, pick, one, every, some, keep, those}
use Rattle.base.specs.Lists.{sublist, put, set_all, store_all, all_at, unpack, pack, count_if}
use Rattle.base.specs.Numbers.{first_of}
use Rattle.base.proofs.Tests.{never_both}
use Rattle.machine.specs.Plan.{offset}
use Rattle.machine.specs.Machine.{set_progress, tiles_left, fit_record, fit, unpack_all, after_sends, carry_out, action_at, waiting, turn, deliver, fresh}
use Rattle.machine.specs.Machine.{gather, send, collect, sweep}
use Rattle.machine.specs.Runs.{turn_of, delivery_of, act, state_after, answers_to, program_over, turns_of, total}
use Rattle.machine.specs.Words.{word_at}
use Rattle.machine.specs.AnyCalls.{events_in, numbers_in, whole, mixed, either, steps_of, own_then, own_after, DidIn}
use Rattle.machine.proofs.ComputedCalls.{small, source}
use Rattle.machine.proofs.Witnesses.{sound}
use Rattle.tenants.specs.Tenants.{stage_agrees, fit_word, fit_for, held_by_other, freed_after, engaged_after, carry_out_for, turn_for, deliver_for, act_for, act_on}
use Rattle.tenants.specs.Tenants.{of_tenant, sources_of, returned, fresh_sharing, turn_by}
use Rattle.tenants.specs.AnyCalls.{tenant_view}
use Rattle.calendar.specs.Windows.{is_window, is_faulty, faulty_board, faulty_table, faulty_minute, covers, open_at, Moment, moment_of, faulty_for, closed}
use Rattle.calendar.specs.Windows.{timed_turn, timed_turn_for, turn_at, mail_of, event_of, act_at, call_of, act_at_for, act_at_on}
use Rattle.calendar.specs.Demands212.{turn_at_by as timed_by}
use Rattle.calendar.specs.Fit.{OpenAt, FaultyHours}
use Rattle.calendar.specs.AnyCalls.{Mixed, mixed_event, act_mixed, MixedCall, mixed_call, act_mixed_on}
use Rattle.calendar.proofs.Fit.{hours_tests}
use Rattle.calendar.proofs.AnyCalls.{mixed212}

-- processor 0 is open from minute 5 to before 10, processor 1 from 10,000 to the end of the week
unfoldable hours : ℕ → Moment
hours minute = moment_of (5 ∷ 10 ∷ replicate 26 0 ++ (10000 ∷ 10080 ∷ replicate 26 0)) minute

-- tile 0 is gathered by a plain turn, refused by the hours at minute 4, calculated at minute 5, sent by a plain turn
unfoldable before : List Mixed
before = inl (turn_of 0) ∷ inr (turn_at (hours 4) 0) ∷ inr (turn_at (hours 5) 0) ∷ []

unfoldable then : List Mixed
then = inr (mail_of 0) ∷ inl (delivery_of 0) ∷ []

unfoldable calls : List Mixed
calls =
    before ++ (inl (turn_of 0) ∷ (then ++ (inr (turn_at (hours 10000) 1) ∷ inl (turn_of 1) ∷ inr (turn_at (hours 3) 1) ∷ inl (turn_of 1) ∷ inl (delivery_of 1)
    ∷ inl (turn_of 0) ∷ inr (turn_at (hours 9) 0) ∷ inl (turn_of 0) ∷ [])))

numbers : answers_to (act_mixed small source) (fresh small) calls ≡ 0 ∷ 24 ∷ 0 ∷ 0 ∷ 0 ∷ 14 ∷ 0 ∷ 0 ∷ 24 ∷ 0 ∷ 0 ∷ 0 ∷ 0 ∷ 13 ∷ []
unfolding calls before then hours small source mixed timed_turn act_at is_window is_faulty faulty_board faulty_table faulty_minute covers open_at faulty_for closed
    those keep offset sublist put unpack unpack_all set_all store_all pack all_at every some one not pick ◌and◌ ◌or◌ first_of set_progress tiles_left fit_record fit
    after_sends carry_out action_at waiting turn deliver act state_after answers_to fresh
numbers = refl

-- that is all, so the claim says that the grid is the sweep
all_steps : steps_of (whole mixed_event) (act_mixed small source) (fresh small) calls ≡ total small
unfolding calls before then hours small source numbers_in mixed timed_turn act_at is_window is_faulty faulty_board faulty_table faulty_minute covers open_at faulty_for
    closed those keep offset sublist put unpack unpack_all set_all store_all pack all_at every some one not pick ◌and◌ ◌or◌ first_of set_progress tiles_left fit_record
    fit after_sends carry_out action_at waiting turn deliver act state_after answers_to fresh count_if
all_steps = refl

collects_sweep : (collect small (state_after (act_mixed small source) (fresh small) calls) (replicate 6 0)).after ≡ sweep small source
unfolding small
collects_sweep = (mixed212 small sound source calls).demand.collecting.grid all_steps (replicate 6 0) refl

-- ---- AnyCalls.TurnIn and AnyCalls.DidIn: message 0 is sent by a plain turn, and gathered by a timed one
sent : DidIn (whole mixed_event) (act_mixed small source) (fresh small) small before (inl (turn_of 0)) 0 (send 0)
unfolding before hours small source program_over turns_of events_in numbers_in mixed either event_of timed_turn act_at is_window is_faulty faulty_board faulty_table
    faulty_minute covers open_at faulty_for closed those keep offset sublist put unpack unpack_all set_all store_all pack all_at every some one not pick ◌and◌ ◌or◌
    first_of set_progress tiles_left fit_record fit after_sends carry_out action_at waiting turn deliver act state_after answers_to fresh
sent = record { turn = record { ours = refl; turn = refl; gave = refl }; named = refl }

gathered : DidIn (whole mixed_event) (act_mixed small source) (fresh small) small (before ++ (inl (turn_of 0) ∷ then)) (inr (turn_at (hours 10000) 1)) 1 (gather 1)
unfolding before then hours small source program_over turns_of events_in numbers_in mixed either event_of timed_turn act_at is_window is_faulty faulty_board
    faulty_table faulty_minute covers open_at faulty_for closed those keep offset sublist put unpack unpack_all set_all store_all pack all_at every some one not pick
    ◌and◌ ◌or◌ first_of set_progress tiles_left fit_record fit after_sends carry_out action_at waiting turn deliver act state_after answers_to fresh
gathered = record { turn = record { ours = refl; turn = refl; gave = refl }; named = refl }

-- so the claim says that processor 1 then has cell 1's word as processor 0 had it at the send
arrives : word_at small (own_then (whole mixed_event) (act_mixed small source) (fresh small) (before ++ (inl (turn_of 0) ∷ then)) (inr (turn_at (hours 10000) 1))) 1 1
    ≡ word_at small (own_after (whole mixed_event) (act_mixed small source) (fresh small) before) 0 1
unfolding small
arrives =
    ((mixed212 small sound source calls).words.posted before (inl (turn_of 0)) 0 0 sent).arrives then (inr (turn_at (hours 10000) 1)) 1 0 (omega arith) gathered

-- ---- two tenants: tenant 0 does tile 0 on processor 0 by plain and timed turns; then tenant 1 gathers there at minute 9
unfoldable first : List MixedCall
first = inl (turn_by 0 0) ∷ inr (timed_by 1 (hours 5) 0) ∷ inr (timed_by 0 (hours 6) 0) ∷ inl (turn_by 1 0) ∷ inl (turn_by 0 0) ∷ []

first_numbers : answers_to (act_mixed_on small (sources_of source source)) (fresh_sharing small) first ≡ 0 ∷ 19 ∷ 0 ∷ 19 ∷ 0 ∷ []
unfolding first hours small source mixed timed_turn_for act_at_for act_at_on is_window is_faulty faulty_board faulty_table faulty_minute covers open_at faulty_for closed
    stage_agrees fit_word fit_for held_by_other freed_after engaged_after carry_out_for turn_for deliver_for act_for act_on of_tenant returned fresh_sharing those keep offset
    sublist put unpack unpack_all set_all store_all pack all_at every some one not pick ◌and◌ ◌or◌ first_of set_progress tiles_left fit_record fit after_sends carry_out
    action_at waiting state_after answers_to fresh
first_numbers = refl

gathered_for : DidIn (tenant_view mixed_call 1) (act_mixed_on small (sources_of source source)) (fresh_sharing small) small first (inr (timed_by 1 (hours 9) 0)) 0
    (gather 0)
unfolding first hours small source program_over turns_of events_in numbers_in mixed either event_of call_of timed_turn_for act_at_for act_at_on is_window is_faulty
    faulty_board faulty_table faulty_minute covers open_at faulty_for closed stage_agrees fit_word fit_for held_by_other freed_after engaged_after carry_out_for turn_for
    deliver_for act_for act_on of_tenant returned fresh_sharing those keep offset sublist put unpack unpack_all set_all store_all pack all_at every some one not pick
    ◌and◌
    ◌or◌ first_of set_progress tiles_left fit_record fit after_sends carry_out action_at waiting state_after answers_to fresh
gathered_for = record { turn = record { ours = refl; turn = refl; gave = refl }; named = refl }

-- ---- Fit.OpenAt, Fit.FaultyHours: open at minute 9 and not at 10; a window that closes before it opens, and the minute after the last
is_open : OpenAt (hours 0).calendar 0 9
unfolding hours is_window covers open_at some ◌and◌ ◌or◌ not
is_open = ((hours_tests small (hours 0)).is_open 0 9).only refl

not_open : OpenAt (hours 0).calendar 0 10 → ⊥
unfolding hours is_window covers open_at some ◌and◌ ◌or◌ not
not_open c = never_both (((hours_tests small (hours 0)).is_open 0 10).whenever c) refl

faulty : FaultyHours small (moment_of (replicate 54 0 ++ (7 ∷ 7 ∷ [])) 0)
unfolding small is_window is_faulty faulty_board faulty_table faulty_minute faulty_for some ◌and◌ ◌or◌ not
faulty = (hours_tests small (moment_of (replicate 54 0 ++ (7 ∷ 7 ∷ [])) 0)).faulty.only refl

no_minute : FaultyHours small (hours 10080)
unfolding hours
no_minute = FaultyHours.of_minute (omega arith)
