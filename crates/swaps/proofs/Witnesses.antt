-- Each premise of a claim of specs/ is met by a run of the plan of Example, so no claim is about nothing: for one tenant, and for two.
use Prim.Native.Nat.{ℕ}
use mathlib.Core.Path.{◌≡◌, refl, sym, ap}
use mathlib.Core.Bool.{Bool, true, false, true≢false}
use mathlib.Core.List.{List, [], ◌∷◌, ◌++◌}
use native.Mathlib.Omega.{arith}
use Rattle.base.specs.Tests.{◌and◌, ◌or◌, not, pick, one, every, some, keep, those}
use Rattle.base.specs.Lists.{sublist, put, set_all, store_all, all_at, unpack, pack}
use Rattle.base.specs.Numbers.{first_of}
use Rattle.machine.specs.Plan.{offset}
use Rattle.machine.specs.Machine.{set_progress, tiles_left, fit_record, fit, unpack_all, after_sends, carry_out, action_at, waiting, turn, deliver, fresh}
use Rattle.machine.specs.Runs.{Event, turn_of, delivery_of, act, state_after}
use Rattle.tenants.specs.Tenants.{stage_agrees, fit_word, fit_for, held_by_other, freed_after, engaged_after, carry_out_for, turn_for, deliver_for, act_for, act_on}
use Rattle.tenants.specs.Tenants.{of_tenant, sources_of, returned, fresh_sharing, Call, turn_by, delivery_by}
use Rattle.swaps.specs.Swaps.{CanTake, Swapped, CanSwap}
use Rattle.swaps.specs.OneTenant.{Different, plainly}
use Rattle.swaps.specs.TwoTenants.{TwoGathers, DifferentFor, wholly}
use Rattle.swaps.proofs.OneTenant.{demand214, likewise}
use Rattle.swaps.proofs.TwoTenants.{demand214_for, likewise as likewise-for}
use Rattle.swaps.proofs.Example.{fork, source, sound, step, call, both_there, both_gather, engages, number_of}

-- ---- one tenant: Swaps.CanSwap and Swaps.Swapped. Both messages are delivered, and two processors gather
can_swap : CanSwap (Different plainly) step (fresh fork) both_there (turn_of 1) (turn_of 2)
unfolding number_of
can_swap =
    record { apart = λ e. let z : ◌≡◌ {A = ℕ} 1 2 = ap number_of e in omega arith; first = both_gather.0; second = both_gather.1 }

swapped : Swapped (CanSwap (Different plainly) step (fresh fork)) (both_there ++ (turn_of 1 ∷ turn_of 2 ∷ []))
    (both_there ++ (turn_of 2 ∷ turn_of 1 ∷ []))
swapped = Swapped.swap both_there [] (turn_of 1) (turn_of 2) can_swap

-- so the claim says of these two lists that they end in the same words
one_end : state_after step (fresh fork) (both_there ++ (turn_of 1 ∷ turn_of 2 ∷ []))
    ≡ state_after step (fresh fork) (both_there ++ (turn_of 2 ∷ turn_of 1 ∷ []))
one_end = (demand214 fork sound source plainly step _ (likewise fork source step (λ s inv e. refl))).rewinds.same_end _ _ swapped

-- ---- two tenants: tenant 0 has done tile 0 on processor 0, which is free again
unfoldable turned : List Call
turned = turn_by 0 0 ∷ turn_by 0 0 ∷ turn_by 0 0 ∷ turn_by 0 0 ∷ []

unfoldable is_turn : Event → Bool
is_turn (turn_of b) = true
is_turn (delivery_of m) = false

-- its message 0 can be delivered, and tenant 1 can gather there
both_taken : CanTake call (state_after call (fresh_sharing fork) turned) (delivery_by 0 0) × CanTake call (state_after call (fresh_sharing fork) turned) (turn_by 1 0)
unfolding turned fork source stage_agrees fit_word fit_for held_by_other freed_after engaged_after carry_out_for turn_for deliver_for act_for act_on of_tenant
    returned fresh_sharing those keep offset sublist put unpack unpack_all set_all store_all pack all_at every some one not pick ◌and◌ ◌or◌ first_of set_progress
    tiles_left fit_record fit after_sends carry_out action_at waiting turn deliver act state_after fresh
both_taken = (refl, refl)

-- TwoTenants.DifferentFor
different : DifferentFor wholly fork (state_after call (fresh_sharing fork) turned) (delivery_by 0 0) (turn_by 1 0)
unfolding is_turn
different =
    record {
      different = λ e. let z : ◌≡◌ {A = ℕ} 0 1 = ap (λ (c : Call). c.tenant) e in omega arith;
      not_gathers = λ t. true≢false (ap is_turn (sym t.first_turn));
    }

can_swap_for : CanSwap (DifferentFor wholly fork) call (fresh_sharing fork) turned (delivery_by 0 0) (turn_by 1 0)
can_swap_for = record { apart = different; first = both_taken.0; second = both_taken.1 }

swapped_for : Swapped (CanSwap (DifferentFor wholly fork) call (fresh_sharing fork)) (turned ++ (delivery_by 0 0 ∷ turn_by 1 0 ∷ []))
    (turned ++ (turn_by 1 0 ∷ delivery_by 0 0 ∷ []))
swapped_for = Swapped.swap turned [] (delivery_by 0 0) (turn_by 1 0) can_swap_for

one_end_for : state_after call (fresh_sharing fork) (turned ++ (delivery_by 0 0 ∷ turn_by 1 0 ∷ []))
    ≡ state_after call (fresh_sharing fork) (turned ++ (turn_by 1 0 ∷ delivery_by 0 0 ∷ []))
one_end_for =
    (demand214_for fork sound (sources_of source source) wholly call _ (likewise-for fork (sources_of source source) call (λ r inv c. refl))
    ).rewinds.same_end _ _ swapped_for

-- TwoTenants.TwoGathers: after the fresh start both tenants can gather on processor 0, and only one goes first
two_gathers : TwoGathers fork (fresh_sharing fork) (turn_by 0 0) (turn_by 1 0)
unfolding fork those keep pick action_at of_tenant fresh_sharing fresh
two_gathers =
    record {
      processor = 0;
      first_turn = refl;
      second_turn = refl;
      two_tenants = λ e. omega arith;
      first_gathers = (0, refl);
      second_gathers = (0, refl);
    }

only_one : (call (call (fresh_sharing fork) (turn_by 0 0)).after (turn_by 1 0)).number ≡ 19
unfolding state_after
only_one =
    (((demand214_for fork sound (sources_of source source) wholly call _ (likewise-for fork (sources_of source source) call (λ r inv c. refl))
    ).swaps []).only_one (turn_by 0 0) (turn_by 1 0) engages.0 engages.1 two_gathers).0
