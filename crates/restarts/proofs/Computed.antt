-- Crashes computed: the small plan with a message at home and one that goes away, and the machine's plan of 16 tiles on 4 processors.
use mathlib.Core.Path.{◌≡◌, refl}
use Prim.Native.Nat.{ℕ, zero, suc, ◌+◌}
use mathlib.Core.List.{List, [], ◌∷◌, ◌++◌, map}
use Rattle.base.specs.Tests.{◌and◌, ◌or◌, not, pick, one, every, some, keep, those, tabulate}
use Rattle.base.specs.Lists.{sublist, put, set_all, store_all, all_at, unpack, pack, count_if}
use Rattle.base.specs.Numbers.{first_of}
use Rattle.machine.specs.Plan.{offset}
use Rattle.machine.specs.Machine.{set_progress, tiles_left, fit_record, fit, unpack_all, after_sends, carry_out, action_at, waiting, turn, fresh, sweep}
use Rattle.machine.specs.Runs.{state_after, answers_to, answers, total, program_over}
use Rattle.machine.proofs.ComputedRun.{rows, ones, total_of}
use Rattle.machine.proofs.Example.{sound}
use Rattle.network.specs.Apart.{start_apart, replaced, turn_apart, sent_off, arrived, assembled, collect_apart}
use Rattle.network.specs.Packets.{NetworkEvent, turn_by, post_of, arrival_of, posted, post, arrive, turn_network, act_network, start_network, mailed}
use Rattle.network.proofs.Computed.{line3, source3, value_at}
use Rattle.restarts.specs.Restarts.{LifeEvent, plain, repost_of, restart_of, repost, restart, act_lives, deeds_of, work_of, redone_of, last_lives}
use Rattle.restarts.specs.Restarts.{MachineByLives}
use Rattle.restarts.proofs.Theorem.{theorem_lives}

-- processor 0 calculates its two tiles and posts message 1, then crashes: it can't post that again, as it has nothing; its packet arrives all the same
-- and processor 1 gathers, then crashes too: it waits until the packet arrives once more, and finishes
unfoldable before : List LifeEvent
before =
    map plain (turn_by 0 ∷ turn_by 0 ∷ turn_by 0 ∷ post_of 0 ∷ turn_by 0 ∷ turn_by 0 ∷ turn_by 0 ∷ post_of 1 ∷ []) ++ (restart_of 0 ∷ repost_of 1 ∷ []) ++
    map plain (arrival_of 0 ∷ turn_by 1 ∷ []) ++ (restart_of 1 ∷ []) ++ map plain (turn_by 1 ∷ arrival_of 0 ∷ turn_by 1 ∷ turn_by 1 ∷ [])

-- processor 0 does all again, posts message 1, and once more: both packets are turned away; there is no processor 2 to crash
unfoldable after : List LifeEvent
after =
    map plain (turn_by 0 ∷ turn_by 0 ∷ turn_by 0 ∷ post_of 0 ∷ turn_by 0 ∷ turn_by 0 ∷ turn_by 0 ∷ post_of 1 ∷ []) ++ (repost_of 1 ∷ []) ++
    map plain (arrival_of 1 ∷ arrival_of 2 ∷ []) ++ (restart_of 2 ∷ [])

numbers : answers (act_lives line3 source3) (start_network line3) (before ++ after)
    ≡ 0 ∷ 0 ∷ 0 ∷ 0 ∷ 0 ∷ 0 ∷ 0 ∷ 0 ∷ 0 ∷ 14 ∷ 0 ∷ 0 ∷ 0 ∷ 12 ∷ 0 ∷ 0 ∷ 0 ∷ 0 ∷ 0 ∷ 0 ∷ 0 ∷ 0 ∷ 0 ∷ 0 ∷ 0 ∷ 0 ∷ 14 ∷ 14 ∷ 11 ∷ []
unfolding line3 value_at source3 those keep offset sublist put unpack unpack_all set_all store_all pack all_at every some one count_if not pick ◌and◌ ◌or◌ first_of
    set_progress tiles_left fit_record fit after_sends carry_out action_at waiting turn fresh start_apart replaced turn_apart sent_off arrived state_after answers_to
    act_network turn_network post posted arrive act_lives repost restart before after
numbers = refl

-- the turns, posts and arrivals that gave 0, of at most so many: processor 1 crashed one step before its end
deeds : deeds_of (before ++ after) (answers (act_lives line3 source3) (start_network line3) (before ++ after)) ≡ 21
unfolding line3 value_at source3 those keep offset sublist put unpack unpack_all set_all store_all pack all_at every some one count_if not pick ◌and◌ ◌or◌ first_of
    set_progress tiles_left fit_record fit after_sends carry_out action_at waiting turn fresh start_apart replaced turn_apart sent_off arrived state_after answers_to
    act_network turn_network post posted arrive act_lives repost restart before after deeds_of
deeds = refl

most : total line3 + mailed line3 + redone_of line3 (before ++ after) (answers (act_lives line3 source3) (start_network line3) (before ++ after)) ≡ 22
unfolding line3 value_at source3 those keep offset sublist put unpack unpack_all set_all store_all pack all_at every some one count_if not pick ◌and◌ ◌or◌ first_of
    set_progress tiles_left fit_record fit after_sends carry_out action_at waiting turn fresh start_apart replaced turn_apart sent_off arrived state_after answers_to
    act_network turn_network post posted arrive act_lives repost restart before after redone_of work_of mailed program_over
most = refl

-- the three packets say the same
packets : (last_lives line3 source3 (before ++ after)).packets
    ≡ record { message = 1; words = 3 ∷ [] } ∷ record { message = 1; words = 3 ∷ [] } ∷ record { message = 1; words = 3 ∷ [] } ∷ []
unfolding line3 value_at source3 those keep offset sublist put unpack unpack_all set_all store_all pack all_at every some one count_if not pick ◌and◌ ◌or◌ first_of
    set_progress tiles_left fit_record fit after_sends carry_out action_at waiting turn fresh start_apart replaced turn_apart sent_off arrived state_after answers_to
    act_network turn_network post posted arrive act_lives repost restart before after
packets = refl

-- collecting waits for the crashed processor, then gives the sweep
early : (collect_apart line3 (last_lives line3 source3 before).areas (7 ∷ 7 ∷ 7 ∷ [])).number ≡ 15
unfolding line3 value_at source3 those keep offset sublist put unpack unpack_all set_all store_all pack all_at every some one count_if not pick ◌and◌ ◌or◌ first_of
    set_progress tiles_left fit_record fit after_sends carry_out action_at waiting turn fresh start_apart replaced turn_apart sent_off arrived state_after answers_to
    act_network turn_network post posted arrive act_lives repost restart before after collect_apart
early = refl

grid : (collect_apart line3 (last_lives line3 source3 (before ++ after)).areas (7 ∷ 7 ∷ 7 ∷ [])).after ≡ 1 ∷ 3 ∷ 6 ∷ []
unfolding line3 value_at source3 those keep offset sublist put unpack unpack_all set_all store_all pack all_at every some one count_if not pick ◌and◌ ◌or◌ first_of
    set_progress tiles_left fit_record fit after_sends carry_out action_at waiting turn fresh start_apart replaced turn_apart sent_off arrived state_after answers_to
    act_network turn_network post posted arrive act_lives repost restart before after collect_apart assembled tabulate
grid = refl

-- ---- the plan of 16 tiles
holds : (events : List LifeEvent) → MachineByLives rows ones events
holds events = theorem_lives rows sound ones events

-- k tiles of processor b with messages from m on: a gather, a calculate, a send and a post each; the last processor's tiles send nothing
tiles : ℕ → ℕ → ℕ → List NetworkEvent
tiles zero b m = []
tiles (suc k) b m = turn_by b ∷ turn_by b ∷ turn_by b ∷ post_of m ∷ tiles k b (m + 1)

ends : ℕ → ℕ → List NetworkEvent
ends zero b = []
ends (suc k) b = turn_by b ∷ turn_by b ∷ ends k b

-- processor 0 crashes when it is done, processor 1 in the middle; processor 2 is given packets of both lives of processor 1
unfoldable crashes : List LifeEvent
crashes =
    map plain (tiles 4 0 0) ++ (restart_of 0 ∷ []) ++
    map plain (arrival_of 0 ∷ arrival_of 1 ∷ arrival_of 2 ∷ arrival_of 3 ∷ tiles 2 1 4) ++ (restart_of 1 ∷ []) ++
    map plain (arrival_of 3 ∷ arrival_of 2 ∷ arrival_of 1 ∷ arrival_of 0 ∷ tiles 4 1 4) ++
    map plain (arrival_of 4 ∷ arrival_of 5 ∷ arrival_of 8 ∷ arrival_of 9 ∷ tiles 4 2 8) ++
    map plain (arrival_of 10 ∷ arrival_of 11 ∷ arrival_of 12 ∷ arrival_of 13 ∷ ends 4 3) ++ map plain (tiles 4 0 0)

all_end : (collect_apart rows (last_lives rows ones crashes).areas []).number ≡ 0
unfolding rows ones total_of those keep offset sublist put unpack unpack_all set_all store_all pack all_at every some one count_if not pick ◌and◌ ◌or◌ first_of
    set_progress tiles_left fit_record fit after_sends carry_out action_at waiting turn fresh start_apart replaced turn_apart sent_off arrived state_after answers_to
    act_network turn_network post posted arrive act_lives repost restart crashes collect_apart tiles ends
all_end = refl

crash_grid : (collect_apart rows (last_lives rows ones crashes).areas []).after ≡ sweep rows ones
crash_grid = (holds crashes).grid [] all_end
