-- The definitions computed: windows and faults, minutes until opening, every number of a turn with hours in its order, and a run that closes mid-tile.
use Rattle.std.specs.Prelude.{Some}
use Prim.Native.Nat.{ℕ, zero, suc, ◌+◌, ◌*◌, ◌/◌}
use mathlib.Core.Path.{◌≡◌, refl}
use mathlib.Core.Bool.{true, false}
use mathlib.Core.List.{List, [], ◌∷◌, ◌++◌}
use lib.ListN.{get_or, replicate}
use Rattle.base.specs.Tests.{◌and◌, ◌or◌, not, pick, one, every, some, keep, those}
use Rattle.base.specs.Lists.{sublist, put, set_all, store_all, all_at, unpack, pack}
use Rattle.base.specs.Numbers.{first_of}
use Rattle.machine.specs.Plan.{Plan, offset}
use Rattle.machine.specs.Machine.{State, state_of, set_progress, tiles_left, fit_record, fit, unpack_all, after_sends, carry_out, action_at, waiting, deliver, fresh}
use Rattle.machine.specs.Runs.{answers_to}
use Rattle.tenants.specs.Tenants.{stage_agrees, fit_word, fit_for, held_by_other, freed_after, engaged_after, carry_out_for, deliver_for, of_tenant, Sharing}
use Rattle.tenants.specs.Tenants.{Sources, returned, fresh_sharing}
use Rattle.calendar.specs.Windows.{is_window, is_faulty, faulty_board, faulty_table, faulty_window, faulty_minute, covers, open_at, Moment}
use Rattle.calendar.specs.Windows.{moment_of, faulty_for, closed, timed_turn, timed_turn_for, turn_at, mail_of, act_at, act_at_for, act_at_on}
use Rattle.calendar.specs.Windows.{first_from, until_open, ask_opening}
use Rattle.calendar.specs.Demands212.{turn_at_by, mail_by}

-- tiles 0 and 2 on processor 0, tile 1 on processor 1; two cells a tile, each reads the cell before it
abbrev reads_at : ℕ → List ℕ
reads_at zero = []
reads_at (suc c) = c ∷ []

abbrev value_at : List ℕ → List ℕ → ℕ → ℕ
value_at source memory zero = get_or source 0 0
value_at source memory (suc c) = get_or memory c 0 + get_or source (suc c) 0

unfoldable small : Plan
small = record {
  cells = 6;
  inside = λ c. true;
  boundary = 0;
  tiles = 3;
  processors = 2;
  tile_of = λ c. c / 2;
  cells_of = λ t. (2 * t) ∷ (2 * t + 1) ∷ [];
  processor_of = λ t. get_or (0 ∷ 1 ∷ 0 ∷ []) t 9;
  messages = record { sender = 0; taker = 1; cells = 1 ∷ [] } ∷ record { sender = 1; taker = 2; cells = 3 ∷ [] } ∷ [];
  reads_of = reads_at;
  value = value_at;
}

-- a pair among the others of each processor
unfoldable table_of : ℕ → ℕ → ℕ → ℕ → List ℕ
table_of a b c d = a ∷ b ∷ replicate 26 0 ++ (replicate 26 0 ++ (c ∷ d ∷ []))

-- processor 0 from 5 to before 10, processor 1 from 10,000 to the end of the week
unfoldable hours : ℕ → Moment
hours minute = moment_of (table_of 5 10 10000 10080) minute

-- open minute included, close minute excluded; each processor by its own pairs
windows : (open_at (hours 0).calendar 0 4 ≡ false) × (open_at (hours 0).calendar 0 5 ≡ true) × (open_at (hours 0).calendar 0 9 ≡ true) ×
    (open_at (hours 0).calendar 0 10
    ≡ false)
    × (open_at (hours 0).calendar 1 5 ≡ false) × (open_at (hours 0).calendar 1 10079 ≡ true) × (open_at (table_of 0 3 0 0) 0 0 ≡ true) ×
    (open_at (table_of 0 0 0 0) 0 0 ≡ false)
unfolding hours table_of open_at covers is_window some ◌and◌ ◌or◌ not
windows = (refl, refl, refl, refl, refl, refl, refl, refl)

-- (0, c) is a window and close 10,080 is fine; (x, 0), (x, x), close above 10,080 and open above close are faulty, of any processor
faults : (faulty_window small (hours 0).calendar ≡ false) × (faulty_window small (table_of 0 1 0 0) ≡ false) × (faulty_window small (table_of 3 0 0 0) ≡ true)
    × (faulty_window small (table_of 0 0 7 7) ≡ true) × (faulty_window small (table_of 0 0 5 10081) ≡ true) × (faulty_window small (table_of 9 8 0 0) ≡ true)
    × (faulty_window small (table_of 0 10080 10079 10080) ≡ false) × (faulty_minute 10079 ≡ false) × (faulty_minute 10080 ≡ true)
unfolding small hours table_of faulty_table faulty_board is_faulty faulty_minute is_window some ◌and◌ ◌or◌ not
faults = (refl, refl, refl, refl, refl, refl, refl, refl, refl)

-- 0 while open, minutes on, past the end of the week, never; the call's own numbers
openings : (until_open (hours 0).calendar 5 0 ≡ Some 0) × (until_open (hours 0).calendar 9 0 ≡ Some 0) × (until_open (hours 0).calendar 0 0 ≡ Some 5)
    × (until_open (hours 0).calendar 10070 0 ≡ Some 15) × (until_open (table_of 0 1 0 0) 10079 0 ≡ Some 1)
unfolding hours table_of until_open first_from open_at covers is_window some ◌and◌ ◌or◌ not pick
openings = (refl, refl, refl, refl, refl)

asked : ((ask_opening small (hours 0) 0).after ≡ Some 5) × ((ask_opening small (hours 0) 0).number ≡ 0) × ((ask_opening small (hours 10080) 0).number ≡ 25)
    × ((ask_opening small (hours 10080) 0).after ≡ Some 0) × ((ask_opening small (hours 0) 2).number ≡ 11) ×
    ((ask_opening small (moment_of (table_of 0 0 7 7) 0) 2).number ≡ 25)
unfolding small hours table_of ask_opening until_open first_from open_at covers faulty_for faulty_table faulty_board is_faulty faulty_minute is_window some ◌and◌ ◌or◌
    not pick first_of
asked = (refl, refl, refl, refl, refl, refl)

-- ---- one tenant: each line, and before those that follow it
unfoldable with_records : List ℕ → State
with_records records = state_of (replicate 12 7) (replicate 2 7) records (0 ∷ 0 ∷ [])

abbrev number : List ℕ → Moment → ℕ → ℕ
number records h b = (timed_turn small (1 ∷ 1 ∷ 1 ∷ 1 ∷ 1 ∷ 1 ∷ []) h (with_records records) b).number

lines : (number (9 ∷ 0 ∷ 0 ∷ 0 ∷ 0 ∷ 0 ∷ []) (hours 10080) 9 ≡ 10)  -- unfit before a faulty minute
    × (number (replicate 6 0) (hours 10080) 9 ≡ 25)  -- a faulty minute before a number too high
    × (number (replicate 6 0) (moment_of (table_of 5 10 7 7) 5) 0 ≡ 25)  -- another's faulty window
    × (number (replicate 6 0) (hours 4) 2 ≡ 11)  -- a number too high before closed
    × (number (replicate 6 0) (hours 4) 1 ≡ 24)  -- closed before waiting
    × (number (2 ∷ 0 ∷ 0 ∷ 0 ∷ 0 ∷ 0 ∷ []) (hours 10) 0 ≡ 24)  -- closed before finished
    × (number (replicate 6 0) (hours 10000) 1 ≡ 12)
    × (number (2 ∷ 0 ∷ 0 ∷ 0 ∷ 0 ∷ 0 ∷ []) (hours 9) 0 ≡ 13)
    × (number (replicate 6 0) (hours 9) 0 ≡ 0)
unfolding small hours table_of with_records timed_turn faulty_for faulty_table faulty_board is_faulty faulty_minute closed open_at covers is_window those keep every
    some all_at not pick ◌and◌ ◌or◌ first_of tiles_left fit_record fit waiting
lines = (refl, refl, refl, refl, refl, refl, refl, refl, refl)

-- a run that closes mid-tile and goes on when it opens again; mail at any hour
run_numbers : answers_to (act_at small (1 ∷ 2 ∷ 3 ∷ 4 ∷ 5 ∷ 6 ∷ [])) (fresh small)
    (turn_at (hours 9) 0 ∷ turn_at (hours 10) 0 ∷ turn_at (hours 5) 0 ∷ turn_at (hours 5) 0 ∷ turn_at (hours 20000) 0 ∷ mail_of 0 ∷ turn_at (hours 5) 1 ∷
    turn_at (hours 10079) 1 ∷ [])
    ≡ 0 ∷ 24 ∷ 0 ∷ 0 ∷ 25 ∷ 0 ∷ 24 ∷ 0 ∷ []
unfolding small hours table_of answers_to act_at timed_turn faulty_for faulty_table faulty_board is_faulty faulty_minute closed open_at covers is_window those keep
    offset sublist put unpack unpack_all set_all store_all pack all_at every some one not pick ◌and◌ ◌or◌ first_of set_progress tiles_left fit_record fit after_sends
    carry_out action_at waiting deliver fresh
run_numbers = refl

-- ---- two tenants: each line, and before those that follow it
unfoldable beds : Sources
beds = record { first = 1 ∷ 2 ∷ 3 ∷ 4 ∷ 5 ∷ 6 ∷ []; second = 1 ∷ 1 ∷ 1 ∷ 1 ∷ 1 ∷ 1 ∷ [] }

unfoldable sharing : List ℕ → List ℕ → List ℕ → Sharing
sharing records theirs engaged = record { first = with_records records; second = with_records theirs; engaged = engaged }

abbrev number_for : List ℕ → List ℕ → List ℕ → ℕ → Moment → ℕ → ℕ
number_for records theirs engaged o h b = (act_at_on small beds (sharing records theirs engaged) (turn_at_by o h b)).number

lines_for : (number_for (9 ∷ 0 ∷ 0 ∷ 0 ∷ 0 ∷ 0 ∷ []) (replicate 6 0) (2 ∷ 2 ∷ []) 2 (hours 10080) 9 ≡ 11)  -- a tenant number above 1 before unfit
    × (number_for (replicate 6 0) (replicate 6 0) (2 ∷ 3 ∷ []) 0 (hours 10080) 9 ≡ 10)  -- unfit before a faulty minute
    × (number_for (replicate 6 0) (replicate 6 0) (2 ∷ 2 ∷ []) 0 (hours 10080) 9 ≡ 25)  -- faulty before a number too high
    × (number_for (replicate 6 0) (replicate 6 0) (2 ∷ 2 ∷ []) 0 (hours 4) 9 ≡ 11)  -- a number too high before closed
    × (number_for (replicate 6 0) (0 ∷ 1 ∷ 0 ∷ 0 ∷ 0 ∷ 0 ∷ []) (1 ∷ 2 ∷ []) 0 (hours 4) 0 ≡ 24)  -- closed before held
    × (number_for (2 ∷ 0 ∷ 0 ∷ 0 ∷ 0 ∷ 0 ∷ []) (replicate 6 0) (2 ∷ 2 ∷ []) 0 (hours 4) 0 ≡ 24)  -- closed before finished
    × (number_for (1 ∷ 0 ∷ 0 ∷ 0 ∷ 0 ∷ 0 ∷ []) (0 ∷ 2 ∷ 0 ∷ 0 ∷ 0 ∷ 0 ∷ []) (1 ∷ 2 ∷ []) 0 (hours 5) 0 ≡ 19)  -- held before waiting
    × (number_for (2 ∷ 0 ∷ 0 ∷ 0 ∷ 0 ∷ 0 ∷ []) (0 ∷ 1 ∷ 0 ∷ 0 ∷ 0 ∷ 0 ∷ []) (1 ∷ 2 ∷ []) 0 (hours 5) 0 ≡ 13)  -- held and finished
    × (number_for (replicate 6 0) (replicate 6 0) (2 ∷ 2 ∷ []) 1 (hours 10000) 1 ≡ 12)
    × (number_for (replicate 6 0) (replicate 6 0) (2 ∷ 2 ∷ []) 1 (hours 5) 0 ≡ 0)
unfolding small beds hours table_of sharing with_records act_at_on act_at_for timed_turn_for faulty_for faulty_table faulty_board is_faulty faulty_minute closed open_at
    covers is_window those keep every some one all_at not pick ◌and◌ ◌or◌ first_of tiles_left fit_record fit waiting stage_agrees fit_word fit_for held_by_other
    of_tenant returned
lines_for = (refl, refl, refl, refl, refl, refl, refl, refl, refl, refl)

-- two gathers on one processor: either can go first, and then the other finds it engaged, also while the processor is closed for the one that holds it
gathers_numbers : (answers_to (act_at_on small beds) (fresh_sharing small) (turn_at_by 0 (hours 5) 0 ∷ turn_at_by 1 (hours 6) 0 ∷ turn_at_by 0 (hours 4) 0 ∷ turn_at_by 1
    (hours 4) 0
    ∷ []) ≡ 0 ∷ 19 ∷ 24 ∷ 24 ∷ [])
    × (answers_to (act_at_on small beds) (fresh_sharing small) (turn_at_by 1 (hours 6) 0 ∷ turn_at_by 0 (hours 5) 0 ∷ mail_by 0 0 ∷ []) ≡ 0 ∷ 19 ∷ 14 ∷ [])
unfolding small beds hours table_of answers_to act_at_on act_at_for timed_turn_for faulty_for faulty_table faulty_board is_faulty faulty_minute closed open_at covers
    is_window those keep offset sublist put unpack unpack_all set_all store_all pack all_at every some one not pick ◌and◌ ◌or◌ first_of set_progress tiles_left
    fit_record fit after_sends carry_out action_at waiting fresh stage_agrees fit_word fit_for held_by_other freed_after engaged_after carry_out_for deliver_for of_tenant
    returned fresh_sharing
gathers_numbers = (refl, refl)
