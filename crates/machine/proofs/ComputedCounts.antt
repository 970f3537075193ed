-- What Runs counts, computed along the run of ComputedCalls: 0 just before, and 1 just after, each kind of step; refused events count nothing.
use Prim.Native.Nat.{ℕ}
use mathlib.Core.Path.{◌≡◌, refl}
use mathlib.Core.List.{List, [], ◌∷◌, ◌++◌}
use lib.ListN.{take, get_or}
use Rattle.base.specs.Tests.{◌and◌, ◌or◌, not, pick, one, every, some, keep, those, sum}
use Rattle.base.specs.Lists.{member, sublist, put, set_all, store_all, all_at, unpack, pack, count_if}
use Rattle.base.specs.Numbers.{first_of}
use Rattle.machine.specs.Plan.{offset}
use Rattle.machine.specs.Machine.{set_progress, tiles_left, fit_record, fit, unpack_all, after_sends, carry_out, action_at, waiting, turn, deliver, fresh}
use Rattle.machine.specs.Runs.{act, state_after, answers_to, program_over, turns_of, times_of, calculates, sends, takes, deliveries_of}
use Rattle.machine.proofs.ComputedCalls.{small, source, events}

-- after the first n events: how often cell 1 was calculated, message 0 sent, delivered, taken; its mark
unfoldable counted : ℕ → List ℕ
counted n =
    times_of small (take n events) (answers_to (act small source) (fresh small) (take n events)) (calculates small 1)
    ∷ times_of small (take n events) (answers_to (act small source) (fresh small) (take n events)) (sends 0)
    ∷ deliveries_of 0 (take n events) (answers_to (act small source) (fresh small) (take n events))
    ∷ times_of small (take n events) (answers_to (act small source) (fresh small) (take n events)) (takes small 0)
    ∷ get_or (state_after (act small source) (fresh small) (take n events)).status 0 0 ∷ []

-- after 1 event tile 0, which sends message 0, has gathered; after 3 it is calculated, after 4 message 0 is sent, after 6 delivered (its second
-- delivery and a turn that waits are refused), and after 9 tile 1, which takes it, has gathered
along : counted 0 ++ (counted 1 ++ (counted 2 ++ (counted 3 ++ (counted 4 ++ (counted 5 ++ (counted 6 ++ (counted 7 ++ (counted 8 ++ (counted 9
    ++ counted 18)))))))))
    ≡ 0 ∷ 0 ∷ 0 ∷ 0 ∷ 0
    ∷ 0 ∷ 0 ∷ 0 ∷ 0 ∷ 0
    ∷ 0 ∷ 0 ∷ 0 ∷ 0 ∷ 0
    ∷ 1 ∷ 0 ∷ 0 ∷ 0 ∷ 0
    ∷ 1 ∷ 1 ∷ 0 ∷ 0 ∷ 1
    ∷ 1 ∷ 1 ∷ 0 ∷ 0 ∷ 1
    ∷ 1 ∷ 1 ∷ 1 ∷ 0 ∷ 2
    ∷ 1 ∷ 1 ∷ 1 ∷ 0 ∷ 2
    ∷ 1 ∷ 1 ∷ 1 ∷ 0 ∷ 2
    ∷ 1 ∷ 1 ∷ 1 ∷ 1 ∷ 3
    ∷ 1 ∷ 1 ∷ 1 ∷ 1 ∷ 3 ∷ []
unfolding counted small source events program_over turns_of calculates sends takes deliveries_of sum member those keep offset sublist put unpack unpack_all
    set_all store_all pack all_at every some one count_if not pick ◌and◌ ◌or◌ first_of set_progress tiles_left fit_record fit after_sends carry_out action_at
    waiting turn deliver act state_after answers_to fresh
along = refl

-- how many turns of each processor gave 0
unfoldable turned : ℕ → List ℕ
turned n =
    turns_of 0 (take n events) (answers_to (act small source) (fresh small) (take n events))
    ∷ turns_of 1 (take n events) (answers_to (act small source) (fresh small) (take n events)) ∷ []

turns : turned 0 ++ (turned 1 ++ (turned 2 ++ (turned 4 ++ (turned 8 ++ (turned 9 ++ turned 18))))) ≡ 0 ∷ 0 ∷ 1 ∷ 0 ∷ 1 ∷ 0 ∷ 3 ∷ 0 ∷ 3 ∷ 0 ∷ 3 ∷ 1 ∷ 5 ∷ 3 ∷ []
unfolding turned small source events program_over turns_of calculates sends takes deliveries_of sum member those keep offset sublist put unpack unpack_all
    set_all store_all pack all_at every some one count_if not pick ◌and◌ ◌or◌ first_of set_progress tiles_left fit_record fit after_sends carry_out action_at
    waiting turn deliver act state_after answers_to fresh
turns = refl
