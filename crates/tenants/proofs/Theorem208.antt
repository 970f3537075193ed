-- Request W-208 for every sound plan, two sources and every list of calls: demand 3 for each tenant, progress; and isolation.
use Prim.Native.Nat.{ℕ, ◌≤◌, ◌<◌}
use mathlib.Core.Path.{◌≡◌, sym, ap, ◌∙◌}
use mathlib.Core.Logic.{◌≢◌, ◌⊎◌, inl, inr}
use mathlib.Core.Bool.{true}
use mathlib.Core.List.{List}
use native.Mathlib.Omega.{arith}
use native.Mathlib.Decide.{ℕ_discrete, dec_lt}
use lib.ListN.{length, get_or}
use borrow.Author.Tests.{ne_eqb, le-leb}
use Rattle.base.proofs.Tests.{and_no}
use Rattle.machine.specs.Plan.{Plan, Sound, tiles_of}
use Rattle.machine.specs.Machine.{State, finished_of, stage_of, sent_of, turn, collect, fresh}
use Rattle.machine.specs.Machine.{gather, carry_out, next_action}
use Rattle.machine.specs.Runs.{Event, turn_of, delivery_of, act, state_after, answers_to, last, steps, total, program}
use Rattle.machine.specs.Runs.{turns_of, Demand3}
use Rattle.machine.proofs.Records.{fit_at, fit_is, fit_over}
use Rattle.machine.proofs.Turns.{by_next, can, gives}
use Rattle.machine.proofs.Kept.{Inv, inv_fit}
use Rattle.machine.proofs.Theorem.{theorem, named_next}
use Rattle.machine.proofs.RunLaws.{Passed, ends, steps_same, turns_same, one_end}
use Rattle.machine.proofs.Once.{once_passed, collects_like}
use Rattle.tenants.specs.Tenants.{TenantAreas, holder_of, other_than, held_by_other, carry_out_for, engaged_after}
use Rattle.tenants.specs.Tenants.{Sharing, Sources, source_for, own_of, other_of, lent_to, returned, fresh_sharing}
use Rattle.tenants.specs.Tenants.{Call, turn_by, delivery_by, act_for, act_on, collect_on}
use Rattle.tenants.specs.Demand208.{events_of, CarriedOutFor, answers_for, steps_for, TenantDemand, Demand208, Isolated}
use Rattle.tenants.proofs.OneCall.{Admits, turn_number, turn_done, deliver_number, collect_is}
use Rattle.tenants.proofs.OneCall.{tenant_cases, tenant_both, call_tenant, call_number, call_own, call_other}
use Rattle.tenants.proofs.SharedWords.{held_begun}
use Rattle.tenants.proofs.Engaged.{SharingInv, sharing_fit, inv_start, inv_run}
use Rattle.tenants.proofs.OneTenant.{matched}

-- a tenant that has begun a tile can go on with it
begun_goes : (p : Plan) (source : List ℕ) (s : State) (b : ℕ) → Inv p source s → b < p.processors → 1 ≤ stage_of s b
    → (turn p source s b).number ≡ 0
begun_goes p source s b inv low h =
    gives p source s b (inv_fit p source s inv) (record { low = low; left = has_left; ready = λ e. absurd (omega arith) })
  where
    fits : fit_at p b (finished_of s b) (stage_of s b) (sent_of s b) ≡ true
    fits = sym (fit_is p s b) ∙ inv.shape.records b low

    go : Dec (finished_of s b < length (tiles_of p b)) → finished_of s b < length (tiles_of p b)
    go (yes k) = k
    go (no n) = absurd (omega (arith, fit_over p b (finished_of s b) (stage_of s b) (sent_of s b) (omega arith) fits))

    has_left : finished_of s b < length (tiles_of p b)
    has_left = go (dec_lt (finished_of s b) (length (tiles_of p b)))

-- the shared words after a turn that gave 0
words_after : (p : Plan) (sources : Sources) (r : Sharing) (o b : ℕ) → (act_on p sources r (turn_by o b)).number ≡ 0
    → (act_on p sources r (turn_by o b)).after.engaged ≡ engaged_after p o (lent_to r o) b (next_action p (own_of r o) b)
unfolding act_on act_for returned carry_out_for
words_after p sources r o b z =
    ap (λ (l : TenantAreas). l.engaged) (turn_done p o (lent_to r o) (other_of r o).progress (source_for sources o) b z)

-- ---- one tenant, any list of calls
module _ (p : Plan) (so : Sound p) (sources : Sources) (o : ℕ) (low : o ≤ 1) (cs : List Call) where
  abbrev source : List ℕ
  source = source_for sources o

  abbrev sharing : Sharing
  sharing = last (act_on p sources) (fresh_sharing p) cs

  abbrev numbers : List ℕ
  numbers = answers_for (act_on p sources) (fresh_sharing p) cs o

  sharing_inv : SharingInv p sources sharing
  sharing_inv = inv_run p so sources cs (fresh_sharing p) (inv_start p sources)

  admits : Admits p o (lent_to sharing o) (other_of sharing o).progress
  admits = record { tenant = le-leb _ _ low; fits = sharing_fit p sources sharing sharing_inv o low }

  own_fresh : own_of (fresh_sharing p) o ≡ fresh p
  unfolding fresh_sharing
  own_fresh = tenant_both o (fresh p)

  -- its events that gave 0: a run of the machine
  passed : List Event
  passed = (matched p sources o low cs (fresh_sharing p)).0

  as_single : Passed (act p source) (fresh p) (events_of o cs) numbers passed (own_of sharing o)
  unfolding passed
  as_single = rw own_fresh at (matched p sources o low cs (fresh_sharing p)).1

  led_to : state_after (act p source) (fresh p) passed ≡ own_of sharing o
  led_to = ends (act p source) as_single

  single : Demand3 (act p source) (fresh p) passed p source (collect p)
  single = theorem p so source passed

  same_steps : steps (act p source) (fresh p) passed ≡ steps_for (act_on p sources) (fresh_sharing p) cs o
  same_steps = steps_same (act p source) as_single

  same_turns : (b : ℕ) → turns_of b (events_of o cs) numbers ≡ turns_of b passed (answers_to (act p source) (fresh p) passed)
  same_turns b = turns_same (act p source) b as_single

  -- ---- a turn that gives 0 is the next of its program
  module _ (b : ℕ) (z : (act_on p sources sharing (turn_by o b)).number ≡ 0) where
    zero_alone : (turn p source (own_of sharing o) b).number ≡ 0
    unfolding act
    zero_alone = call_number p sources sharing (turn_by o b) z

    next : (turns_of b (events_of o cs) numbers < length (program p b))
        × (get_or (program p b) (turns_of b (events_of o cs) numbers) (gather 0) ≡ next_action p (own_of sharing o) b)
    unfolding act
    next = rw (same_turns b, sym led_to) (named_next p so source passed b (rw led_to zero_alone))

    own_after : own_of (act_on p sources sharing (turn_by o b)).after o ≡ (turn p source (own_of sharing o) b).after
    unfolding act
    own_after = call_own p sources sharing (turn_by o b) z

    carried : CarriedOutFor p source sharing (act_on p sources sharing (turn_by o b)).after o b (turns_of b (events_of o cs) numbers)
    carried =
        record {
          own =
              record {
                named = next.0;
                by_rule = own_after ∙ by_next p source (own_of sharing o) b zero_alone ∙ ap (carry_out p source (own_of sharing o) b) (sym next.1);
              };
          shared = words_after p sources sharing o b z ∙ ap (engaged_after p o (lent_to sharing o) b) (sym next.1);
          others = call_other p sources sharing (turn_by o b);
        }

  -- ---- collecting
  module _ (grid : List ℕ) where
    collects_same : collect_on p sharing o grid ≡ collect p (state_after (act p source) (fresh p) passed) grid
    unfolding collect_on
    collects_same = rw led_to (collect_is p o (lent_to sharing o) (other_of sharing o).progress grid admits)

  -- ---- progress

  -- a call of this tenant gives 0: it has fewer steps
  fewer : (e : Event) → (act p source (own_of sharing o) e).number ≡ 0 → steps_for (act_on p sources) (fresh_sharing p) cs o < total p
  fewer e z = let k = single.then_fewer e (rw led_to z) in omega (arith, same_steps)

  -- what the machine would do the tenant can, where the other doesn't hold the processor
  delivers : (m : ℕ) → (act p source (own_of sharing o) (delivery_of m)).number ≡ 0 → (act_on p sources sharing (delivery_by o m)).number ≡ 0
  unfolding act_on act_for act
  delivers m z = deliver_number p o (lent_to sharing o) (other_of sharing o).progress m admits ∙ z

  turns : (b : ℕ) → holder_of sharing.engaged b ≢ other_than o → (act p source (own_of sharing o) (turn_of b)).number ≡ 0
      → (act_on p sources sharing (turn_by o b)).number ≡ 0
  unfolding act_on act_for act held_by_other
  turns b n z = turn_number p o (lent_to sharing o) (other_of sharing o).progress source b admits (and_no _ _ (ne_eqb _ _ n)) ∙ z

  -- and the tenant that holds it is at stage 1 or 2, where it never waits
  holder_turns : (b : ℕ) → b < p.processors → holder_of sharing.engaged b ≡ o → (act_on p sources sharing (turn_by o b)).number ≡ 0
  unfolding act
  holder_turns b k w =
      turns b (λ e. omega arith)
      (begun_goes p source (own_of sharing o) b (sharing_inv.inv o low) k (held_begun _ o _ (sharing_inv.stages b k o low) w))

  -- a turn of this tenant, or of the other
  act_low : (b : ℕ) → (act p source (own_of sharing o) (turn_of b)).number ≡ 0 → b < p.processors
  unfolding act
  act_low b z = (can p source (own_of sharing o) b z).low

-- ---- both tenants
module _ (p : Plan) (so : Sound p) (sources : Sources) (cs : List Call) where
  abbrev after : Sharing
  after = last (act_on p sources) (fresh_sharing p) cs

  abbrev steps_on : ℕ → ℕ
  steps_on o = steps_for (act_on p sources) (fresh_sharing p) cs o

  -- a tenant with fewer steps: a call of it gives 0, or of the other, which holds the processor
  goes : (o : ℕ) → o ≤ 1 → steps_on o < total p → (c : Call) × ((act_on p sources after c).number ≡ 0)
  goes o low h = start ((single p so sources o low cs).goes_on (omega (arith, same_steps p so sources o low cs)))
    where
      source : List ℕ
      source = source_for sources o

      Goes : Type 0
      Goes = (c : Call) × ((act_on p sources after c).number ≡ 0)

      by_turn : (b : ℕ) → (act p source (own_of after o) (turn_of b)).number ≡ 0 → Dec (holder_of after.engaged b ≡ other_than o) → Goes
      by_turn b z (yes w) =
          (turn_by (other_than o) b, holder_turns p so sources (other_than o) (omega arith) cs b (act_low p so sources o low cs b z) w)
      by_turn b z (no n) = (turn_by o b, turns p so sources o low cs b n z)

      by_event : (e : Event) → (act p source (own_of after o) e).number ≡ 0 → Goes
      by_event (turn_of b) z = by_turn b z (ℕ_discrete _ _)
      by_event (delivery_of m) z = (delivery_by o m, delivers p so sources o low cs m z)

      start : (e : Event) × ((act p source (state_after (act p source) (fresh p) (passed p so sources o low cs)) e).number ≡ 0) → Goes
      start r = by_event r.0 (rw (led_to p so sources o low cs) at r).1

  either_goes : (steps_on 0 < total p) ⊎ (steps_on 1 < total p) → (c : Call) × ((act_on p sources after c).number ≡ 0)
  either_goes (inl h) = goes 0 (omega arith) h
  either_goes (inr h) = goes 1 (omega arith) h

  one_fewer : (c : Call) → (act_on p sources after c).number ≡ 0 → (steps_on 0 < total p) ⊎ (steps_on 1 < total p)
  one_fewer c z = go (tenant_cases c.tenant low) (fewer p so sources c.tenant low cs c.event (call_number p sources after c z))
    where
      low : c.tenant ≤ 1
      low = call_tenant p sources after c z

      go : (c.tenant ≡ 0) ⊎ (c.tenant ≡ 1) → steps_on c.tenant < total p → (steps_on 0 < total p) ⊎ (steps_on 1 < total p)
      go (inl e) h = inl (rw e at h)
      go (inr e) h = inr (rw e at h)

  tenant_demand : (o : ℕ) → o ≤ 1 → TenantDemand (act_on p sources) (fresh_sharing p) cs p o (source_for sources o) (collect_on p)
  tenant_demand o low =
      record {
        once = once_passed p (act p source) (as_single p so sources o low cs) D.once;
        collecting =
            collects_like p source (steps_on o ≡ total p) _ (collect_on p after o) _ (λ e. same ∙ e) (λ e. sym same ∙ e)
            (λ grid len. collects_same p so sources o low cs grid) D.collecting;
        carried_out = λ before then b e z. carried p so sources o low before b z;
      }
    where
      source : List ℕ
      source = source_for sources o

      D : Demand3 (act p source) (fresh p) (passed p so sources o low cs) p source (collect p)
      D = single p so sources o low cs

      same : steps (act p source) (fresh p) (passed p so sources o low cs) ≡ steps_on o
      same = same_steps p so sources o low cs

pub theorem208 : (p : Plan) → Sound p → (sources : Sources) (calls : List Call)
    → Demand208 (act_on p sources) (fresh_sharing p) calls p sources (collect_on p)
theorem208 p so sources calls =
    record {
      each = tenant_demand p so sources calls;
      goes_on = either_goes p so sources calls;
      then_fewer = one_fewer p so sources calls;
    }

-- for every plan, sound or not, and two runs with one source for this tenant
pub isolated : (p : Plan) (o : ℕ) → o ≤ 1 → (sources sources' : Sources) → source_for sources o ≡ source_for sources' o
    → Isolated o (act_on p sources) (act_on p sources') (fresh_sharing p) (fresh_sharing p)
isolated p o low sources sources' same =
    record {
      same_words = λ calls calls' e1 e2.
          one_end (act p (source_for sources' o)) (rw (same, e1, e2) at (matched p sources o low calls (fresh_sharing p)).1)
          (matched p sources' o low calls' (fresh_sharing p)).1;
    }
