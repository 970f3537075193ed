-- W-214 for lists that mix plain and timed turns: both kinds are guarded, so their mixture is. Two turns of which one has hours, swapped in a run.
use Prim.Native.Nat.{ℕ}
use mathlib.Core.Path.{◌≡◌, refl, ap}
use mathlib.Core.Logic.{inl, inr}
use mathlib.Core.List.{List, [], ◌∷◌, ◌++◌}
use native.Mathlib.Omega.{arith}
use lib.ListN.{replicate}
use Rattle.base.specs.Tests.{◌and◌, ◌or◌, not, pick, one, every, some, keep, those}
use Rattle.base.specs.Lists.{sublist, put, set_all, store_all, all_at, unpack, pack}
use Rattle.base.specs.Numbers.{first_of}
use Rattle.machine.specs.Plan.{Plan, Sound, offset}
use Rattle.machine.specs.Machine.{State, Answered, set_progress, tiles_left, fit_record, fit, unpack_all, after_sends, carry_out, action_at, waiting, turn, deliver}
use Rattle.machine.specs.Machine.{fresh}
use Rattle.machine.specs.Runs.{Event, turn_of, delivery_of, act, state_after}
use Rattle.machine.specs.AnyCalls.{mixed, either}
use Rattle.machine.proofs.Kept.{Inv}
use Rattle.machine.proofs.Guards.{Guards}
use Rattle.machine.proofs.AnyCalls.{itself, guards_mixed}
use Rattle.tenants.specs.Tenants.{Sharing, Sources, fresh_sharing, Call, act_on}
use Rattle.tenants.proofs.Engaged.{SharingInv}
use Rattle.tenants.proofs.Views.{sharing_itself}
use Rattle.calendar.specs.Windows.{is_window, is_faulty, faulty_board, faulty_table, faulty_minute, covers, open_at, Moment, moment_of, faulty_for, closed, timed_turn}
use Rattle.calendar.specs.Windows.{Timed, turn_at, event_of, act_at, TimedCall, call_of, act_at_on}
use Rattle.calendar.specs.AnyCalls.{Mixed, mixed_event, act_mixed, mixed_call, act_mixed_on}
use Rattle.calendar.proofs.Allowed.{guards, guards_for}
use Rattle.swaps.specs.Swaps.{CanTake, CanSwap, Swapped}
use Rattle.swaps.specs.OneTenant.{Different}
use Rattle.swaps.specs.Mixed.{Mixed214, Mixed214For}
use Rattle.swaps.proofs.OneTenant.{demand214}
use Rattle.swaps.proofs.TwoTenants.{demand214_for}
use Rattle.swaps.proofs.Example.{fork, source, sound, number_of}

-- any plain calls and any calls with hours that are guarded
pub mixed214_for : (p : Plan) → Sound p → (source : List ℕ) (plain : State → Event → Answered State) (timed : State → Timed → Answered State)
    (allowed : Event → Type 0) (allowed' : Timed → Type 0) → Guards (Inv p source) (act p source) plain (λ e. e) allowed
    → Guards (Inv p source) (act p source) timed event_of allowed' → Mixed214 (mixed plain timed) (fresh p)
mixed214_for p so source plain timed allowed allowed' gd gd' =
    demand214 p so source mixed_event (mixed plain timed) _
    (guards_mixed (Inv p source) (act p source) plain timed (λ e. e) event_of allowed allowed' gd gd')

pub mixed214 : (p : Plan) → Sound p → (source : List ℕ) → Mixed214 (act_mixed p source) (fresh p)
mixed214 p so source = mixed214_for p so source (act p source) (act_at p source) _ _ (itself p source) (guards p source)

pub mixed214_on : (p : Plan) → Sound p → (sources : Sources) (plain : Sharing → Call → Answered Sharing) (timed : Sharing → TimedCall → Answered Sharing)
    (allowed : Call → Type 0) (allowed' : TimedCall → Type 0) → Guards (SharingInv p sources) (act_on p sources) plain (λ c. c) allowed
    → Guards (SharingInv p sources) (act_on p sources) timed call_of allowed' → Mixed214For p (mixed plain timed) (fresh_sharing p)
mixed214_on p so sources plain timed allowed allowed' gd gd' =
    demand214_for p so sources mixed_call (mixed plain timed) _
    (guards_mixed (SharingInv p sources) (act_on p sources) plain timed (λ c. c) call_of allowed allowed' gd gd')

pub mixed214_two : (p : Plan) → Sound p → (sources : Sources) → Mixed214For p (act_mixed_on p sources) (fresh_sharing p)
mixed214_two p so sources = mixed214_on p so sources (act_on p sources) (act_at_on p sources) _ _ (sharing_itself p sources) (guards_for p sources)

-- ---- a timed gather and a plain one, swapped: processor 1 is open at minute 7
unfoldable hours : Moment
hours = moment_of (replicate 28 0 ++ (7 ∷ 8 ∷ replicate 54 0)) 7

unfoldable before : List Mixed
before = inl (turn_of 0) ∷ inl (turn_of 0) ∷ inl (turn_of 0) ∷ inl (turn_of 0) ∷ inl (delivery_of 0) ∷ inl (delivery_of 1) ∷ []

both_taken : CanTake (act_mixed fork source) (state_after (act_mixed fork source) (fresh fork) before) (inr (turn_at hours 1))
    × CanTake (act_mixed fork source) (state_after (act_mixed fork source) (fresh fork) before) (inl (turn_of 2))
unfolding before hours fork source mixed timed_turn act_at is_window is_faulty faulty_board faulty_table faulty_minute covers open_at faulty_for closed those keep
    offset sublist put unpack unpack_all set_all store_all pack all_at every some one not pick ◌and◌ ◌or◌ first_of set_progress tiles_left fit_record fit after_sends
    carry_out action_at waiting turn deliver act state_after fresh
both_taken = (refl, refl)

can_swap : CanSwap (Different mixed_event) (act_mixed fork source) (fresh fork) before (inr (turn_at hours 1)) (inl (turn_of 2))
unfolding number_of either event_of
can_swap =
    record { apart = λ e. let z : ◌≡◌ {A = ℕ} 1 2 = ap number_of e in omega arith; first = both_taken.0; second = both_taken.1 }

one_end : state_after (act_mixed fork source) (fresh fork) (before ++ (inr (turn_at hours 1) ∷ inl (turn_of 2) ∷ []))
    ≡ state_after (act_mixed fork source) (fresh fork) (before ++ (inl (turn_of 2) ∷ inr (turn_at hours 1) ∷ []))
one_end =
    (mixed214 fork sound source).rewinds.same_end _ _ (Swapped.swap before [] (inr (turn_at hours 1)) (inl (turn_of 2)) can_swap)

-- a timed turn and a plain one of the same processor count as the same event
same : Different mixed_event (fresh fork) (inr (turn_at hours 1)) (inl (turn_of 1)) → ⊥
unfolding either event_of
same different = different refl
