-- Each premise of a claim of specs/ is met: the plan of ComputedCalls is sound, and its run meets them, so no claim is about nothing.
use Prim.Native.Nat.{ℕ, zero, suc, ◌+◌}
use mathlib.Core.Path.{◌≡◌, refl, ap}
use mathlib.Core.Logic.{inl}
use mathlib.Core.Bool.{true}
use mathlib.Core.List.{List, [], ◌∷◌, ◌++◌}
use native.Mathlib.Omega.{arith}
use lib.ListN.{get_or}
use Rattle.base.specs.Tests.{◌and◌, ◌or◌, not, pick, one, every, some, keep, those}
use Rattle.base.specs.Lists.{In, member, sublist, put, set_all, store_all, all_at, unpack, pack}
use Rattle.base.specs.Numbers.{first_of}
use Rattle.machine.specs.Plan.{Sound, offset}
use Rattle.machine.specs.Machine.{set_progress, tiles_left, fit_record, fit, unpack_all, after_sends, carry_out, action_at, waiting, turn, deliver, fresh}
use Rattle.machine.specs.Machine.{gather, send, state_of}
use Rattle.machine.specs.Runs.{Event, turn_of, delivery_of, act, state_after, answers_to, program_over, turns_of}
use Rattle.machine.specs.Words.{word_at, Did}
use Rattle.machine.specs.Fit.{Fit, FitRecord, Waits}
use Rattle.machine.specs.StatusTells.{Among}
use Rattle.machine.proofs.SoundTest.{all_in, is_rising, knows, cell_test, own_test, tile_test, held_test, message_test, sound_test, tested}
use Rattle.machine.proofs.Posted.{posted}
use Rattle.machine.proofs.Fit.{tests}
use Rattle.machine.proofs.ComputedCalls.{reads_at, value_at, small, source}

-- ---- Plan.Sound
test : sound_test small ≡ true
unfolding small sound_test cell_test own_test tile_test held_test message_test all_in is_rising knows every some member ◌and◌ ◌or◌ not
test = refl

value_local : (source m n : List ℕ) (c : ℕ) → ((r : ℕ) → In r (reads_at c) → get_or m r 0 ≡ get_or n r 0) → value_at source m c ≡ value_at source n c
value_local source m n zero h = refl
value_local source m n (suc c) h = ap (λ (x : ℕ). x + get_or source (suc c) 0) (h c (inl refl))

pub sound : Sound small
unfolding small
sound = tested small test (λ source m n c h f. value_local source m n c f)

-- ---- Words.Did: processor 0 has gathered and calculated tile 0, and sends message 0; it is delivered, and processor 1 gathers for tile 1
unfoldable before : List Event
before = turn_of 0 ∷ turn_of 0 ∷ []

unfoldable then : List Event
then = delivery_of 0 ∷ []

sent : Did (act small source) (fresh small) small before 0 (send 0)
unfolding before small source program_over turns_of those keep offset sublist put unpack unpack_all set_all store_all pack all_at every some one not pick ◌and◌
    ◌or◌ first_of set_progress tiles_left fit_record fit after_sends carry_out action_at waiting turn deliver act state_after answers_to fresh
sent = record { gave = refl; named = refl }

gathered : Did (act small source) (fresh small) small (before ++ (turn_of 0 ∷ then)) 1 (gather 1)
unfolding before then small source program_over turns_of those keep offset sublist put unpack unpack_all set_all store_all pack all_at every some one not pick
    ◌and◌ ◌or◌ first_of set_progress tiles_left fit_record fit after_sends carry_out action_at waiting turn deliver act state_after answers_to fresh
gathered = record { gave = refl; named = refl }

-- so the claim says of this run that processor 1 has then cell 1's word 3, as processor 0 had it at the send
arrives : word_at small (act small source (state_after (act small source) (fresh small) (before ++ (turn_of 0 ∷ then))) (turn_of 1)).after 1 1
    ≡ word_at small (state_after (act small source) (fresh small) before) 0 1
unfolding small
arrives = (posted small sound source before 0 0 sent).arrives then 1 0 (omega arith) gathered

word : word_at small (state_after (act small source) (fresh small) before) 0 1 ≡ 3
unfolding before small source those keep offset sublist put unpack unpack_all set_all store_all pack all_at every some one not pick ◌and◌ ◌or◌ first_of
    set_progress tiles_left fit_record fit after_sends carry_out action_at waiting turn deliver act state_after answers_to fresh
word = refl

-- ---- Fit.Fit, Fit.FitRecord, Fit.Waits: a state that no run reaches, with every clause in use. Processor 0 has finished its two tiles; processor
-- 1 stands before its only send; message 0 is taken, message 1 is marked although it is not sent
fits : Fit small (state_of [] [] (2 ∷ 0 ∷ 0 ∷ 0 ∷ 2 ∷ 0 ∷ []) (3 ∷ 2 ∷ []))
unfolding small those keep every pick ◌and◌ tiles_left fit_record fit
fits = (tests small _).state_fit.only refl

one_fits : FitRecord small (state_of [] [] (2 ∷ 0 ∷ 0 ∷ 0 ∷ 2 ∷ 0 ∷ []) (3 ∷ 2 ∷ [])) 1
unfolding small
one_fits = fits.records 1 (omega arith)

waits : Waits small (fresh small) 1
unfolding small those keep all_at not ◌and◌ tiles_left waiting fresh
waits = ((tests small (fresh small)).waits 1).only refl

-- ---- Marks.Among: the send of message 0 is among these steps, so it is marked
among : Among small (before ++ (turn_of 0 ∷ [])) (0 ∷ 0 ∷ 0 ∷ []) (send 0)
unfolding before small program_over turns_of those keep one ◌and◌
among = record { processor = 0; low = omega arith; index = 2; within = omega arith; named = refl; done = omega arith }
