-- The system computed: who has what after the first steps of the machine's plan of 16 tiles; and a small plan run to the end,
-- with one message that stays on its processor and one that goes to another.
use mathlib.Core.Path.{◌≡◌, refl}
use mathlib.Core.Bool.{true}
use Prim.Native.Nat.{ℕ, zero, suc, ◌+◌, ◌/◌}
use mathlib.Core.List.{List, [], ◌∷◌, ◌++◌}
use lib.ListN.{get_or}
use Rattle.base.specs.Tests.{◌and◌, ◌or◌, not, pick, one, every, some, keep, those, tabulate}
use Rattle.base.specs.Lists.{sublist, put, set_all, store_all, all_at, unpack, pack, count_if}
use Rattle.base.specs.Numbers.{first_of}
use Rattle.machine.specs.Plan.{Plan, offset}
use Rattle.machine.specs.Machine.{set_progress, tiles_left, fit_record, fit, unpack_all, after_sends, carry_out, action_at, waiting, turn, fresh, sweep_to, sweep}
use Rattle.machine.specs.Machine.{collected, collect}
use Rattle.machine.specs.Runs.{Event, turn_of, delivery_of, state_after, answers_to, answers}
use Rattle.machine.proofs.ComputedRun.{rows, ones, total_of}
use Rattle.network.specs.Apart.{start_apart, replaced, turn_apart, sent_off, arrived, carried, deliver_apart, act_apart, assembled, collect_apart, join_to}
use Rattle.network.specs.Apart.{joined, last_apart, answers_apart}
use Rattle.network.specs.Packets.{NetworkEvent, turn_by, post_of, arrival_of, posted, post, arrive, turn_network, act_network, start_network, last_network}

-- processor 0 gathers, calculates, sends; processor 1 waits; message 0 is carried, a second time refused; processor 1 gathers; processor 4 is none
unfoldable firsts : List Event
firsts = turn_of 0 ∷ turn_of 0 ∷ turn_of 0 ∷ turn_of 1 ∷ delivery_of 0 ∷ delivery_of 0 ∷ delivery_of 12 ∷ turn_of 4 ∷ turn_of 1 ∷ []

first_numbers : answers_apart (act_apart rows ones) (start_apart rows) firsts ≡ 0 ∷ 0 ∷ 0 ∷ 12 ∷ 0 ∷ 14 ∷ 11 ∷ 11 ∷ 0 ∷ []
unfolding rows ones total_of those keep offset sublist put unpack unpack_all set_all store_all pack all_at every some one count_if not pick ◌and◌ ◌or◌ first_of
    set_progress tiles_left fit_record fit after_sends carry_out action_at waiting turn fresh firsts start_apart replaced turn_apart sent_off arrived carried
    deliver_apart act_apart state_after answers_to
first_numbers = refl

-- the first message's words at its sender's, at its taker's, and at a third processor's
words_at_0 : pack (last_apart rows ones firsts 0).buffer (0 ∷ 1 ∷ 2 ∷ []) ≡ 2 ∷ 6 ∷ 0 ∷ []
unfolding rows ones total_of those keep offset sublist put unpack unpack_all set_all store_all pack all_at every some one count_if not pick ◌and◌ ◌or◌ first_of
    set_progress tiles_left fit_record fit after_sends carry_out action_at waiting turn fresh firsts start_apart replaced turn_apart sent_off arrived carried
    deliver_apart act_apart state_after answers_to
words_at_0 = refl

words_at_1 : pack (last_apart rows ones firsts 1).buffer (0 ∷ 1 ∷ 2 ∷ []) ≡ 2 ∷ 6 ∷ 0 ∷ []
unfolding rows ones total_of those keep offset sublist put unpack unpack_all set_all store_all pack all_at every some one count_if not pick ◌and◌ ◌or◌ first_of
    set_progress tiles_left fit_record fit after_sends carry_out action_at waiting turn fresh firsts start_apart replaced turn_apart sent_off arrived carried
    deliver_apart act_apart state_after answers_to
words_at_1 = refl

words_at_2 : pack (last_apart rows ones firsts 2).buffer (0 ∷ 1 ∷ 2 ∷ []) ≡ 0 ∷ 0 ∷ 0 ∷ []
unfolding rows ones total_of those keep offset sublist put unpack unpack_all set_all store_all pack all_at every some one count_if not pick ◌and◌ ◌or◌ first_of
    set_progress tiles_left fit_record fit after_sends carry_out action_at waiting turn fresh firsts start_apart replaced turn_apart sent_off arrived carried
    deliver_apart act_apart state_after answers_to
words_at_2 = refl

-- its status: 2 at the sender's, 3 at the taker's, 0 elsewhere; processor 0's record is known to itself alone
marks : get_or (last_apart rows ones firsts 0).status 0 0 ∷ get_or (last_apart rows ones firsts 1).status 0 0 ∷ get_or
    (last_apart rows ones firsts 2).status 0 0 ∷ [] ≡ 2 ∷ 3 ∷ 0 ∷ []
unfolding rows ones total_of those keep offset sublist put unpack unpack_all set_all store_all pack all_at every some one count_if not pick ◌and◌ ◌or◌ first_of
    set_progress tiles_left fit_record fit after_sends carry_out action_at waiting turn fresh firsts start_apart replaced turn_apart sent_off arrived carried
    deliver_apart act_apart state_after answers_to
marks = refl

records : pack (last_apart rows ones firsts 0).progress (0 ∷ 1 ∷ 2 ∷ 3 ∷ 4 ∷ 5 ∷ []) ++ pack (last_apart rows ones firsts 1).progress
    (0 ∷ 1 ∷ 2 ∷ 3 ∷ 4 ∷ 5 ∷ [])
    ≡ 1 ∷ 0 ∷ 0 ∷ 0 ∷ 0 ∷ 0 ∷ 0 ∷ 0 ∷ 0 ∷ 0 ∷ 1 ∷ 0 ∷ []
unfolding rows ones total_of those keep offset sublist put unpack unpack_all set_all store_all pack all_at every some one count_if not pick ◌and◌ ◌or◌ first_of
    set_progress tiles_left fit_record fit after_sends carry_out action_at waiting turn fresh firsts start_apart replaced turn_apart sent_off arrived carried
    deliver_apart act_apart state_after answers_to
records = refl

-- ---- three cells in a line, each read by the next; tiles 0 and 1 on processor 0, tile 2 on processor 1: the first message stays at home, the second goes
abbrev pub reads_at : ℕ → List ℕ
reads_at zero = []
reads_at (suc c) = c ∷ []

unfoldable pub value_at : List ℕ → List ℕ → ℕ → ℕ
value_at source memory zero = get_or source 0 0
value_at source memory (suc c) = get_or source (suc c) 0 + get_or memory c 0

unfoldable pub line3 : Plan
line3 = record {
  cells = 3;
  inside = λ c. true;
  boundary = 0;
  tiles = 3;
  processors = 2;
  tile_of = λ c. c;
  cells_of = λ t. t ∷ [];
  processor_of = λ t. t / 2;
  messages = record { sender = 0; taker = 1; cells = 0 ∷ [] } ∷ record { sender = 1; taker = 2; cells = 1 ∷ [] } ∷ [];
  reads_of = reads_at;
  value = value_at;
}

unfoldable pub source3 : List ℕ
source3 = 1 ∷ 2 ∷ 3 ∷ []

-- its whole run, with refused events between
unfoldable pub whole : List Event
whole =
    turn_of 1 ∷ turn_of 0 ∷ turn_of 0 ∷ delivery_of 0 ∷ turn_of 0 ∷ turn_of 0 ∷ delivery_of 0 ∷ delivery_of 0 ∷ turn_of 0 ∷ turn_of 0 ∷ turn_of 0 ∷
    turn_of 1 ∷ delivery_of 1 ∷ delivery_of 1 ∷ turn_of 1 ∷ turn_of 2 ∷ turn_of 1 ∷ turn_of 1 ∷ []

whole_numbers : answers_apart (act_apart line3 source3) (start_apart line3) whole
    ≡ 12 ∷ 0 ∷ 0 ∷ 14 ∷ 0 ∷ 12 ∷ 0 ∷ 14 ∷ 0 ∷ 0 ∷ 0 ∷ 12 ∷ 0 ∷ 14 ∷ 0 ∷ 11 ∷ 0 ∷ 13 ∷ []
unfolding line3 value_at source3 those keep offset sublist put unpack unpack_all set_all store_all pack all_at every some one count_if not pick ◌and◌ ◌or◌ first_of
    set_progress tiles_left fit_record fit after_sends carry_out action_at waiting turn fresh whole start_apart replaced turn_apart sent_off arrived carried
    deliver_apart act_apart state_after answers_to
whole_numbers = refl

whole_grid : assembled line3 (last_apart line3 source3 whole) ≡ 1 ∷ 3 ∷ 6 ∷ []
unfolding line3 value_at source3 those keep offset sublist put unpack unpack_all set_all store_all pack all_at every some one count_if not pick ◌and◌ ◌or◌ first_of
    set_progress tiles_left fit_record fit after_sends carry_out action_at waiting turn fresh whole start_apart replaced turn_apart sent_off arrived carried
    deliver_apart act_apart state_after answers_to assembled tabulate
whole_grid = refl

whole_sweep : sweep line3 source3 ≡ 1 ∷ 3 ∷ 6 ∷ []
unfolding line3 value_at source3 sweep_to pick
whole_sweep = refl

-- no processor has the grid: each has its own cells in its own part, and what it was brought
parts : (last_apart line3 source3 whole 0).memories ++ (last_apart line3 source3 whole 1).memories ≡ 1 ∷ 3 ∷ 0 ∷ 0 ∷ 0 ∷ 0 ∷ 0 ∷ 0 ∷ 0 ∷ 0 ∷ 3 ∷ 6 ∷ []
unfolding line3 value_at source3 those keep offset sublist put unpack unpack_all set_all store_all pack all_at every some one count_if not pick ◌and◌ ◌or◌ first_of
    set_progress tiles_left fit_record fit after_sends carry_out action_at waiting turn fresh whole start_apart replaced turn_apart sent_off arrived carried
    deliver_apart act_apart state_after answers_to
parts = refl

-- collecting waits for every processor's own word
early : (collect_apart line3 (last_apart line3 source3 (turn_of 0 ∷ [])) (7 ∷ 7 ∷ 7 ∷ [])).number ≡ 15
unfolding line3 value_at source3 those keep offset sublist put unpack unpack_all set_all store_all pack all_at every some one count_if not pick ◌and◌ ◌or◌ first_of
    set_progress tiles_left fit_record fit after_sends carry_out action_at waiting turn fresh whole start_apart replaced turn_apart sent_off arrived carried
    deliver_apart act_apart state_after answers_to collect_apart
early = refl

on_time : (collect_apart line3 (last_apart line3 source3 whole) (7 ∷ 7 ∷ 7 ∷ [])).after ≡ 1 ∷ 3 ∷ 6 ∷ []
unfolding line3 value_at source3 those keep offset sublist put unpack unpack_all set_all store_all pack all_at every some one count_if not pick ◌and◌ ◌or◌ first_of
    set_progress tiles_left fit_record fit after_sends carry_out action_at waiting turn fresh whole start_apart replaced turn_apart sent_off arrived carried
    deliver_apart act_apart state_after answers_to collect_apart assembled tabulate
on_time = refl

-- ---- in two events: no post before the send; message 1 is posted, another post refused; processor 1 takes its packet in, a repeat and a packet that isn't
-- there are refused
unfoldable networked : List NetworkEvent
networked =
    post_of 0 ∷ turn_by 0 ∷ turn_by 0 ∷ turn_by 0 ∷ post_of 0 ∷ turn_by 0 ∷ turn_by 0 ∷ arrival_of 0 ∷ turn_by 0 ∷ post_of 1 ∷ post_of 1 ∷ turn_by 1 ∷
    arrival_of 0 ∷ arrival_of 0 ∷ arrival_of 1 ∷ turn_by 1 ∷ arrival_of 0 ∷ turn_by 1 ∷ []

network_numbers : answers (act_network line3 source3) (start_network line3) networked
    ≡ 14 ∷ 0 ∷ 0 ∷ 0 ∷ 0 ∷ 0 ∷ 0 ∷ 11 ∷ 0 ∷ 0 ∷ 14 ∷ 12 ∷ 0 ∷ 14 ∷ 11 ∷ 0 ∷ 14 ∷ 0 ∷ []
unfolding line3 value_at source3 those keep offset sublist put unpack unpack_all set_all store_all pack all_at every some one count_if not pick ◌and◌ ◌or◌ first_of
    set_progress tiles_left fit_record fit after_sends carry_out action_at waiting turn fresh start_apart replaced turn_apart sent_off arrived state_after answers_to
    act_network turn_network post posted arrive networked
network_numbers = refl

-- the machine's own call on the joined parts
network_grid : (collect line3 (joined line3 (last_network line3 source3 networked).areas) (7 ∷ 7 ∷ 7 ∷ [])).after ≡ 1 ∷ 3 ∷ 6 ∷ []
unfolding line3 value_at source3 those keep offset sublist put unpack unpack_all set_all store_all pack all_at every some one count_if not pick ◌and◌ ◌or◌ first_of
    set_progress tiles_left fit_record fit after_sends carry_out action_at waiting turn fresh start_apart replaced turn_apart sent_off arrived state_after answers_to
    act_network turn_network post posted arrive networked join_to collect collected tabulate
network_grid = refl
