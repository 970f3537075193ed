-- Two tenants on the machine's plan of three tiles and two processors: a mixed run to the end, and each line against its neighbours.
use Prim.Native.Nat.{ℕ}
use mathlib.Core.Path.{◌≡◌, refl}
use mathlib.Core.List.{List, [], ◌∷◌}
use lib.ListN.{replicate}
use Rattle.base.specs.Tests.{◌and◌, ◌or◌, not, pick, one, every, some, keep, those, tabulate}
use Rattle.base.specs.Lists.{sublist, put, set_all, store_all, all_at, unpack, pack, count_if}
use Rattle.base.specs.Numbers.{first_of}
use Rattle.machine.specs.Plan.{offset}
use Rattle.machine.specs.Machine.{state_of, set_progress, tiles_left, fit_record, fit, waiting, collected, fresh}
use Rattle.machine.specs.Machine.{unpack_all, after_sends, carry_out, action_at}
use Rattle.machine.specs.Runs.{state_after, answers_to, answers, last}
use Rattle.machine.proofs.ComputedCalls.{small}
use Rattle.tenants.specs.Tenants.{stage_agrees, fit_word, fit_for, held_by_other, freed_after, engaged_after, carry_out_for}
use Rattle.tenants.specs.Tenants.{turn_for, deliver_for, collect_for, act_for, act_on, collect_on}
use Rattle.tenants.specs.Tenants.{of_tenant, Sharing, Sources, returned, fresh_sharing, Call, turn_by, delivery_by}

unfoldable sources : Sources
sources = record { first = 1 ∷ 2 ∷ 3 ∷ 4 ∷ 5 ∷ 6 ∷ []; second = 1 ∷ 1 ∷ 1 ∷ 1 ∷ 1 ∷ 1 ∷ [] }

-- tenant 0 gathers on processor 0, and tenant 1 finds it engaged until tile 0 is sent; then the other way round; processor 1 likewise
unfoldable calls : List Call
calls =
    turn_by 0 0 ∷ turn_by 1 0 ∷ turn_by 0 0 ∷ turn_by 1 0 ∷ turn_by 2 9 ∷ turn_by 0 0 ∷ turn_by 1 0 ∷ turn_by 0 0 ∷ turn_by 1 0 ∷ turn_by 1 0
    ∷ delivery_by 1 0 ∷ delivery_by 1 0 ∷ turn_by 0 1 ∷ turn_by 1 1 ∷ delivery_by 0 0 ∷ turn_by 0 1 ∷ turn_by 1 2 ∷ turn_by 1 1 ∷ turn_by 1 1
    ∷ turn_by 1 1 ∷ turn_by 0 1 ∷ turn_by 0 1 ∷ turn_by 1 1 ∷ turn_by 0 1 ∷ delivery_by 0 1 ∷ delivery_by 1 1 ∷ turn_by 0 0 ∷ turn_by 1 0
    ∷ turn_by 0 0 ∷ turn_by 1 0 ∷ turn_by 1 0 ∷ turn_by 0 0 ∷ []

-- 0 done, 11 no such tenant, 12 waits, 13 finished for this tenant, 14 not in flight, 19 engaged to the other
numbers : answers (act_on small sources) (fresh_sharing small) calls
    ≡ 0 ∷ 19 ∷ 0 ∷ 19 ∷ 11 ∷ 0 ∷ 0 ∷ 19 ∷ 0 ∷ 0
    ∷ 0 ∷ 14 ∷ 12 ∷ 0 ∷ 0 ∷ 19 ∷ 11 ∷ 0 ∷ 0
    ∷ 13 ∷ 0 ∷ 0 ∷ 13 ∷ 0 ∷ 0 ∷ 0 ∷ 0 ∷ 19
    ∷ 0 ∷ 0 ∷ 0 ∷ 13 ∷ []
unfolding small sources calls those keep offset sublist put unpack unpack_all set_all store_all pack all_at every some one count_if not pick
    ◌and◌ ◌or◌ first_of set_progress tiles_left fit_record fit after_sends carry_out action_at waiting fresh stage_agrees fit_word fit_for
    held_by_other freed_after engaged_after carry_out_for turn_for deliver_for of_tenant returned fresh_sharing act_for act_on state_after answers_to
numbers = refl

unfoldable ended : Sharing
ended = record {
  first = state_of (1 ∷ 3 ∷ 0 ∷ 10 ∷ 15 ∷ 21 ∷ 0 ∷ 3 ∷ 6 ∷ 10 ∷ 0 ∷ 0 ∷ []) (3 ∷ 10 ∷ []) (2 ∷ 0 ∷ 0 ∷ 1 ∷ 0 ∷ 0 ∷ []) (3 ∷ 3 ∷ []);
  second = state_of (1 ∷ 2 ∷ 0 ∷ 4 ∷ 5 ∷ 6 ∷ 0 ∷ 2 ∷ 3 ∷ 4 ∷ 0 ∷ 0 ∷ []) (2 ∷ 4 ∷ []) (2 ∷ 0 ∷ 0 ∷ 1 ∷ 0 ∷ 0 ∷ []) (3 ∷ 3 ∷ []);
  engaged = 2 ∷ 2 ∷ [];
}

last_words : last (act_on small sources) (fresh_sharing small) calls ≡ ended
unfolding small sources calls ended those keep offset sublist put unpack unpack_all set_all store_all pack all_at every some one count_if not pick
    ◌and◌ ◌or◌ first_of set_progress tiles_left fit_record fit after_sends carry_out action_at waiting fresh stage_agrees fit_word fit_for
    held_by_other freed_after engaged_after carry_out_for turn_for deliver_for of_tenant returned fresh_sharing act_for act_on state_after answers_to
last_words = refl

-- each tenant collects the sweep of its own source
unfoldable grid_of : ℕ → List ℕ
grid_of o = (collect_on small ended o (replicate 6 0)).after

first_grid : grid_of 0 ≡ 1 ∷ 3 ∷ 6 ∷ 10 ∷ 15 ∷ 21 ∷ []
unfolding grid_of small ended those keep sublist every some one not pick ◌and◌ ◌or◌ first_of tiles_left fit_record fit stage_agrees fit_word fit_for
    of_tenant collect_on collect_for collected tabulate
first_grid = refl

second_grid : grid_of 1 ≡ 1 ∷ 2 ∷ 3 ∷ 4 ∷ 5 ∷ 6 ∷ []
unfolding grid_of small ended those keep sublist every some one not pick ◌and◌ ◌or◌ first_of tiles_left fit_record fit stage_agrees fit_word fit_for
    of_tenant collect_on collect_for collected tabulate
second_grid = refl

-- ---- a sharing of these records, of tenant 0 and of tenant 1, tenant 1's marks and the shared words
unfoldable sharing : List ℕ → List ℕ → List ℕ → List ℕ → Sharing
sharing records theirs marks engaged = record {
  first = state_of (replicate 12 7) (replicate 2 7) records (0 ∷ 0 ∷ []);
  second = state_of (replicate 12 7) (replicate 2 7) theirs marks;
  engaged = engaged;
}

unfoldable none : List ℕ
none = 0 ∷ 0 ∷ 0 ∷ 0 ∷ 0 ∷ 0 ∷ []

unfoldable number_on : Sharing → Call → ℕ
number_on r c = (act_on small sources r c).number

-- line 10: a shared word of 3; one that says tenant 1, whose stage is 0; one that says none while a stage is 1; the other's records.
-- 11 for the tenant comes before it, 11 for the processor behind it. The other's marks are not lent and not tested.
line_10 : number_on (sharing none none (0 ∷ 0 ∷ []) (2 ∷ 3 ∷ [])) (turn_by 0 9) ∷ number_on (sharing none none (0 ∷ 0 ∷ []) (1 ∷ 2 ∷ [])) (turn_by 0 0)
    ∷ number_on (sharing (0 ∷ 1 ∷ 0 ∷ 0 ∷ 0 ∷ 0 ∷ []) none (0 ∷ 0 ∷ []) (2 ∷ 2 ∷ [])) (delivery_by 1 0)
    ∷ number_on (sharing none (3 ∷ 0 ∷ 0 ∷ 0 ∷ 0 ∷ 0 ∷ []) (0 ∷ 0 ∷ []) (2 ∷ 2 ∷ [])) (turn_by 0 0)
    ∷ number_on (sharing none none (0 ∷ 0 ∷ []) (2 ∷ 3 ∷ [])) (turn_by 2 0) ∷ number_on (sharing none none (9 ∷ 0 ∷ []) (2 ∷ 2 ∷ [])) (turn_by 0 0) ∷ []
    ≡ 10 ∷ 10 ∷ 10 ∷ 10 ∷ 11 ∷ 0 ∷ []
unfolding number_on none sharing small sources those keep every some one all_at not pick ◌and◌ ◌or◌ first_of tiles_left fit_record fit waiting
    stage_agrees fit_word fit_for held_by_other of_tenant turn_for deliver_for returned act_for act_on
line_10 = refl

-- line 19: held and finished for this tenant gives 13; held and waiting gives 19
line_19 : number_on (sharing (2 ∷ 0 ∷ 0 ∷ 0 ∷ 0 ∷ 0 ∷ []) (0 ∷ 1 ∷ 0 ∷ 0 ∷ 0 ∷ 0 ∷ []) (0 ∷ 0 ∷ []) (1 ∷ 2 ∷ [])) (turn_by 0 0)
    ∷ number_on (sharing (1 ∷ 0 ∷ 0 ∷ 0 ∷ 0 ∷ 0 ∷ []) (0 ∷ 2 ∷ 0 ∷ 0 ∷ 0 ∷ 0 ∷ []) (0 ∷ 0 ∷ []) (1 ∷ 2 ∷ [])) (turn_by 0 0) ∷ []
    ≡ 13 ∷ 19 ∷ []
unfolding number_on sharing small sources those keep every some one all_at not pick ◌and◌ ◌or◌ first_of tiles_left fit_record fit waiting
    stage_agrees fit_word fit_for held_by_other of_tenant turn_for deliver_for returned act_for act_on
line_19 = refl

-- collecting: 15 for a tenant that has tiles left; 11 for tenant 2, whatever else
line_15 : (collect_on small (fresh_sharing small) 1 (replicate 6 0)).number ∷ (collect_on small (sharing none none [] (3 ∷ 2 ∷ [])) 2 []).number ∷ []
    ≡ 15 ∷ 11 ∷ []
unfolding none sharing small those keep every some one not pick ◌and◌ ◌or◌ first_of tiles_left fit_record fit stage_agrees fit_word fit_for of_tenant
    fresh fresh_sharing offset collect_on collect_for
line_15 = refl
