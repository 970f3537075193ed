-- Each premise of a claim of specs/ is met on the machine's plan of three tiles, so no claim is about nothing.
use Prim.Native.Nat.{ℕ}
use mathlib.Core.Path.{◌≡◌, refl}
use mathlib.Core.List.{List, [], ◌∷◌}
use native.Mathlib.Omega.{arith}
use Rattle.base.specs.Tests.{◌and◌, ◌or◌, not, pick, one, every, some, keep, those}
use Rattle.base.specs.Lists.{sublist, put, set_all, store_all, all_at, unpack, pack}
use Rattle.base.specs.Numbers.{first_of}
use Rattle.machine.specs.Plan.{offset}
use Rattle.machine.specs.Machine.{state_of, set_progress, tiles_left, fit_record, fit, unpack_all, after_sends, carry_out, action_at, waiting, fresh}
use Rattle.machine.specs.Runs.{state_after, answers_to, last}
use Rattle.machine.proofs.ComputedCalls.{small}
use Rattle.tenants.specs.Tenants.{TenantAreas, tenant_areas, stage_agrees, fit_word, fit_for, held_by_other, freed_after, engaged_after, carry_out_for, turn_for}
use Rattle.tenants.specs.Tenants.{deliver_for, act_for, act_on, of_tenant, Sources, sources_of, own_of, returned, fresh_sharing, Call, turn_by, delivery_by}
use Rattle.tenants.specs.Demand208.{events_of, answers_of, answers_for}
use Rattle.tenants.specs.Fit.{FitWord, FitFor, Engaged}
use Rattle.tenants.proofs.Theorem208.{isolated}
use Rattle.tenants.proofs.Fit.{tests_for}

-- ---- Fit.FitFor, Fit.FitWord, Fit.Engaged: lent to tenant 0, processor 0 free and processor 1 engaged to tenant 1, whose stage there is 1; no run
-- reaches it, since message 0 has not been sent
unfoldable lent : TenantAreas
lent = tenant_areas (state_of [] [] (0 ∷ 0 ∷ 0 ∷ 0 ∷ 0 ∷ 0 ∷ []) (0 ∷ 3 ∷ [])) (2 ∷ 1 ∷ [])

unfoldable theirs : List ℕ
theirs = 0 ∷ 0 ∷ 0 ∷ 0 ∷ 1 ∷ 0 ∷ []

fits : FitFor small 0 lent theirs
unfolding small lent theirs those keep every pick ◌and◌ ◌or◌ tiles_left fit_record fit stage_agrees fit_word fit_for
fits = (tests_for small 0 lent theirs).all_fit.only refl

word_fits : FitWord 0 1 0 1
unfolding small lent theirs
word_fits = fits.shared 1 (omega arith)

engaged : Engaged small 0 lent 1
unfolding small lent those keep ◌and◌ tiles_left held_by_other
engaged = ((tests_for small 0 lent theirs).engaged 1).only refl

-- ---- Demand208.Isolated: two runs that agree on tenant 0's events and their numbers, though the other tenant's source and calls differ
abbrev ours : List ℕ
ours = 1 ∷ 2 ∷ 3 ∷ 4 ∷ 5 ∷ 6 ∷ []

abbrev left : Sources
left = sources_of ours (1 ∷ 1 ∷ 1 ∷ 1 ∷ 1 ∷ 1 ∷ [])

abbrev right : Sources
right = sources_of ours (9 ∷ 9 ∷ 9 ∷ 9 ∷ 9 ∷ 9 ∷ [])

unfoldable run : List Call
run = turn_by 0 0 ∷ turn_by 1 0 ∷ turn_by 0 0 ∷ turn_by 0 0 ∷ turn_by 1 0 ∷ turn_by 1 0 ∷ delivery_by 0 0 ∷ []

unfoldable run' : List Call
run' = turn_by 0 0 ∷ turn_by 0 0 ∷ turn_by 0 0 ∷ delivery_by 1 0 ∷ delivery_by 0 0 ∷ []

same_events : events_of 0 run ≡ events_of 0 run'
unfolding run run' events_of pick
same_events = refl

same_answers : answers_for (act_on small left) (fresh_sharing small) run 0 ≡ answers_for (act_on small right) (fresh_sharing small) run' 0
unfolding small run run' answers_of those keep offset sublist put unpack unpack_all set_all store_all pack all_at every some one not pick ◌and◌ ◌or◌ first_of
    set_progress tiles_left fit_record fit after_sends carry_out action_at waiting fresh stage_agrees fit_word fit_for held_by_other freed_after engaged_after
    carry_out_for turn_for deliver_for of_tenant returned fresh_sharing act_for act_on state_after answers_to
same_answers = refl

same_words : own_of (last (act_on small left) (fresh_sharing small) run) 0 ≡ own_of (last (act_on small right) (fresh_sharing small) run') 0
unfolding of_tenant pick
same_words = (isolated small 0 (omega arith) left right refl).same_words run run' same_events same_answers
