-- Two processes that are one processor at the same time, computed: the small plan with a message at home and one that goes away.
use mathlib.Core.Path.{◌≡◌, refl}
use Prim.Native.Nat.{ℕ, zero, suc}
use mathlib.Core.List.{List, [], ◌∷◌, ◌++◌}
use Rattle.base.specs.Tests.{◌and◌, ◌or◌, not, pick, one, every, some, keep, those, tabulate}
use Rattle.base.specs.Lists.{sublist, put, set_all, store_all, all_at, unpack, pack, count_if}
use Rattle.base.specs.Numbers.{first_of}
use Rattle.machine.specs.Plan.{offset}
use Rattle.machine.specs.Machine.{set_progress, tiles_left, fit_record, fit, unpack_all, after_sends, carry_out, action_at, waiting, turn, fresh}
use Rattle.machine.specs.Runs.{state_after, answers_to, answers, last}
use Rattle.network.specs.Apart.{start_apart, replaced, assembled, collect_apart}
use Rattle.network.specs.Packets.{start_network}
use Rattle.network.proofs.Computed.{line3, source3, value_at}
use Rattle.restarts.specs.Processes.{ProcessEvent, start_of, turn_from, post_from, repost_from, arrival_at, posted_from, repost_by, act_process, areas_of}

-- processes 0 and 2 are processor 0, process 1 is processor 1
unfoldable twins : ℕ → ℕ
twins zero = 0
twins (suc zero) = 1
twins (suc (suc q)) = 0

-- all of processor 0's work, by process q
unfoldable whole : ℕ → List ProcessEvent
whole q = turn_from q ∷ turn_from q ∷ turn_from q ∷ post_from q 0 ∷ turn_from q ∷ turn_from q ∷ turn_from q ∷ post_from q 1 ∷ []

-- both do it, and both post message 1; process 0 is no process of its taker, process 1 takes the second packet and is given the first one too late;
-- it can post again what it received; then process 0 starts anew
unfoldable both_run : List ProcessEvent
both_run =
    whole 0 ++ whole 2 ++ (arrival_at 0 0 ∷ arrival_at 1 1 ∷ arrival_at 1 0 ∷ turn_from 1 ∷ turn_from 1 ∷ repost_from 1 1 ∷ start_of 0 ∷ turn_from 0 ∷ [])

numbers : answers (act_process line3 source3 twins) (start_network line3) both_run
    ≡ 0 ∷ 0 ∷ 0 ∷ 0 ∷ 0 ∷ 0 ∷ 0 ∷ 0 ∷ 0 ∷ 0 ∷ 0 ∷ 0 ∷ 0 ∷ 0 ∷ 0 ∷ 0 ∷ 11 ∷ 0 ∷ 14 ∷ 0 ∷ 0 ∷ 0 ∷ 0 ∷ 0 ∷ []
unfolding line3 value_at source3 those keep offset sublist put unpack unpack_all set_all store_all pack all_at every some one count_if not pick ◌and◌ ◌or◌ first_of
    set_progress tiles_left fit_record fit after_sends carry_out action_at waiting turn fresh start_apart replaced state_after answers_to act_process repost_by posted_from twins
    whole both_run
numbers = refl

-- all three packets say the same
packets : (last (act_process line3 source3 twins) (start_network line3) both_run).packets
    ≡ record { message = 1; words = 3 ∷ [] } ∷ record { message = 1; words = 3 ∷ [] } ∷ record { message = 1; words = 3 ∷ [] } ∷ []
unfolding line3 value_at source3 those keep offset sublist put unpack unpack_all set_all store_all pack all_at every some one count_if not pick ◌and◌ ◌or◌ first_of
    set_progress tiles_left fit_record fit after_sends carry_out action_at waiting turn fresh start_apart replaced state_after answers_to act_process repost_by posted_from twins
    whole both_run
packets = refl

-- collected from processes 2 and 1 it is the sweep; process 0 has tiles left again
unfoldable from2 : ℕ → ℕ
from2 zero = 2
from2 (suc b) = 1

unfoldable from0 : ℕ → ℕ
from0 zero = 0
from0 (suc b) = 1

grid : (collect_apart line3 (areas_of (last (act_process line3 source3 twins) (start_network line3) both_run) from2) (7 ∷ 7 ∷ 7 ∷ [])).after ≡ 1 ∷ 3 ∷ 6 ∷ []
unfolding line3 value_at source3 those keep offset sublist put unpack unpack_all set_all store_all pack all_at every some one count_if not pick ◌and◌ ◌or◌ first_of
    set_progress tiles_left fit_record fit after_sends carry_out action_at waiting turn fresh start_apart replaced state_after answers_to act_process repost_by posted_from twins
    whole both_run from2 collect_apart assembled tabulate
grid = refl

early : (collect_apart line3 (areas_of (last (act_process line3 source3 twins) (start_network line3) both_run) from0) (7 ∷ 7 ∷ 7 ∷ [])).number ≡ 15
unfolding line3 value_at source3 those keep offset sublist put unpack unpack_all set_all store_all pack all_at every some one count_if not pick ◌and◌ ◌or◌ first_of
    set_progress tiles_left fit_record fit after_sends carry_out action_at waiting turn fresh start_apart replaced state_after answers_to act_process repost_by posted_from twins
    whole both_run from0 collect_apart assembled tabulate
early = refl
