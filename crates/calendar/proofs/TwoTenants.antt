-- Request W-212 for two tenants: demand 3 as W-208 has it of every run with hours, from W-208's theorem over those of its calls that gave 0.
use Prim.Native.Nat.{ℕ, ◌≤◌, ◌<◌}
use mathlib.Core.Path.{◌≡◌, refl, sym, ◌∙◌, subst}
use mathlib.Core.Logic.{◌≢◌, ◌⊎◌, inl, inr}
use mathlib.Core.Bool.{true}
use mathlib.Core.List.{List, [], ◌∷◌, ◌++◌, map}
use native.Mathlib.Omega.{arith}
use native.Mathlib.Decide.{ℕ_discrete}
use lib.ListN.{length}
use lib.Dec.{eqb}
use borrow.Author.Tests.{eq-eqb, ne_eqb, ltb-true}
use Rattle.base.specs.Tests.{pick}
use Rattle.machine.specs.Plan.{Plan, Sound}
use Rattle.machine.specs.Machine.{State, Answered, tiles_left}
use Rattle.machine.specs.Runs.{Event, turn_of, delivery_of, act, total, turns_of, deliveries_of, answers_to, last, state_after}
use Rattle.machine.proofs.RunLaws.{after_of, Passed, ends, steps_same, turns_same, brings_same, one_end}
use Rattle.machine.proofs.Once.{once_like, collects_like}
use Rattle.machine.proofs.Guards.{Guards, is_plain, plain_zero, guarded_zero, good_end, passes}
use Rattle.tenants.specs.Tenants.{Sharing, Sources, source_for, own_of, other_of, lent_to, fresh_sharing, Call, act_for, act_on, collect_on}
use Rattle.tenants.specs.Demand208.{events_of, answers_of, CarriedOutFor, steps_for as call_steps, TenantDemand, Demand208}
use Rattle.tenants.proofs.OneCall.{call_away, call_tenant}
use Rattle.tenants.proofs.Engaged.{SharingInv, inv_start, inv_next}
use Rattle.tenants.proofs.TenantTurns.{turn_open}
use Rattle.tenants.proofs.OneTenant.{step_number, step_own}
use Rattle.tenants.proofs.Theorem208.{theorem208}
use Rattle.calendar.specs.Windows.{week, open_at, Moment, moment_of, event_of, TimedCall, call_of, act_at_on}
use Rattle.calendar.specs.Demands212.{Faultless, OpensSometime, turn_at_by, mail_by, events_for, answers_for, steps_for, SomeCall, OnlyHoursFor}
use Rattle.calendar.specs.Demands212.{TenantDemand212, Demand212For, IsolatedAt}
use Rattle.calendar.proofs.Allowed.{Allowed, open_allowed, guards_for}

-- ---- tenant o's events in the two lists, both matched with one run of the single tenant's machine
module _ (p : Plan) (sources : Sources) (o : ℕ) (low : o ≤ 1) where
  abbrev M : State → List Event → List ℕ → List Event → State → Type 0
  M = Passed (act p (source_for sources o))

  -- one more call of the sharing, that gave 0 or not, put before what is matched
  module _ (r : Sharing) (c : Call) (es ps : List Event) (xs : List ℕ) (z : State) where
    step_seen : (x : ℕ) → x ≡ 0 → (act_on p sources r c).number ≡ 0 → M (own_of (act_on p sources r c).after o) es xs ps z
        → M (own_of r o) (pick (eqb c.tenant o) (c.event ∷ es) es) (pick (eqb c.tenant o) (x ∷ xs) xs) (pick (eqb c.tenant o) (c.event ∷ ps) ps) z
    unfolding pick
    step_seen x x0 n0 m = go (ℕ_discrete c.tenant o)
      where
        go : Dec (c.tenant ≡ o)
            → M (own_of r o) (pick (eqb c.tenant o) (c.event ∷ es) es) (pick (eqb c.tenant o) (x ∷ xs) xs) (pick (eqb c.tenant o) (c.event ∷ ps) ps) z
        go (yes e) = rw (eq-eqb c.tenant o e) (Passed.step x0 (step_number p sources o low r c e n0)
            (subst (λ (s : State). M s es xs ps z) (step_own p sources o low r c e n0) m))
        go (no n) = rw (ne_eqb c.tenant o n) (subst (λ (s : State). M s es xs ps z) (call_away p sources r c o low (λ e. n (sym e))) m)

    refused_seen : (x : ℕ) → x ≢ 0 → M (own_of r o) es xs ps z
        → M (own_of r o) (pick (eqb c.tenant o) (c.event ∷ es) es) (pick (eqb c.tenant o) (x ∷ xs) xs) ps z
    unfolding pick
    refused_seen x n0 m = go (ℕ_discrete c.tenant o)
      where
        go : Dec (c.tenant ≡ o) → M (own_of r o) (pick (eqb c.tenant o) (c.event ∷ es) es) (pick (eqb c.tenant o) (x ∷ xs) xs) ps z
        go (yes e) = rw (eq-eqb c.tenant o e) (Passed.refused n0 m)
        go (no n) = rw (ne_eqb c.tenant o n) m

  pub both_matched : {r z : Sharing} {cs qs : List Call} {xs : List ℕ} → Passed (act_on p sources) r cs xs qs z
      → (ps : List Event) × M (own_of r o) (events_of o cs) (answers_of o cs xs) ps (own_of z o)
      × M (own_of r o) (events_of o qs) (answers_of o qs (answers_to (act_on p sources) r qs)) ps (own_of z o)
  unfolding events_of answers_of answers_to
  both_matched Passed.none = ([], Passed.none, Passed.none)
  both_matched (Passed.step {s = r} {e = c} {x = x} h k m) =
      let w = both_matched m in
      (pick (eqb c.tenant o) (c.event ∷ w.0) w.0, step_seen r c _ _ _ _ x h k w.1, step_seen r c _ _ _ _ _ k k w.2)
  both_matched (Passed.refused {s = r} {e = c} {x = x} h m) =
      let w = both_matched m in
      (w.0, refused_seen r c _ _ _ _ x h w.1, w.2)

-- the lines of a call that is a turn and gives 0
pub call_facts : (p : Plan) (sources : Sources) (r : Sharing) (o b : ℕ) → (act_on p sources r (record { tenant = o; event = turn_of b })).number ≡ 0
    → (b < p.processors) × (tiles_left p (own_of r o) b ≡ true)
unfolding act_on act_for
call_facts p sources r o b z =
    let q = turn_open p o (lent_to r o) (other_of r o).progress (source_for sources o) b z in
    (ltb-true _ _ q.low, q.left)

-- for any calls that do as the sharing does where they are allowed, are refused elsewhere, and are allowed at open minutes of a faultless table
module _ (p : Plan) (so : Sound p) (sources : Sources) (acts : Sharing → TimedCall → Answered Sharing) (allowed : TimedCall → Type 0)
    (gd : Guards (SharingInv p sources) (act_on p sources) acts call_of allowed)
    (mail-allowed : (o m : ℕ) → allowed (mail_by o m))
    (turn_allowed : (calendar : List ℕ) (minute o b : ℕ) → Faultless p calendar → minute < week → open_at calendar b minute ≡ true → allowed
    (turn_at_by o (moment_of calendar minute) b)) where
  good_next : (r : Sharing) → SharingInv p sources r → (c : Call) → SharingInv p sources (act_on p sources r c).after
  good_next r inv c = inv_next p so sources r inv c

  module _ (cs : List TimedCall) where
    abbrev ended : Sharing
    ended = last acts (fresh_sharing p) cs

    inv : SharingInv p sources ended
    inv = good_end (SharingInv p sources) (act_on p sources) acts call_of allowed gd good_next cs (fresh_sharing p) (inv_start p sources)

    -- those that gave 0
    passed : List Call
    passed = (passes (SharingInv p sources) (act_on p sources) acts call_of allowed gd good_next cs (fresh_sharing p) (inv_start p sources)).0

    ran : Passed (act_on p sources) (fresh_sharing p) (map call_of cs) (answers_to acts (fresh_sharing p) cs) passed ended
    unfolding passed
    ran = (passes (SharingInv p sources) (act_on p sources) acts call_of allowed gd good_next cs (fresh_sharing p) (inv_start p sources)).1

    led_to : state_after (act_on p sources) (fresh_sharing p) passed ≡ ended
    led_to = ends (act_on p sources) ran

    plainly : Demand208 (act_on p sources) (fresh_sharing p) passed p sources (collect_on p)
    plainly = theorem208 p so sources passed

    module _ (o : ℕ) (low : o ≤ 1) where
      abbrev numbers : List ℕ
      numbers = answers_of o passed (answers_to (act_on p sources) (fresh_sharing p) passed)

      same_steps : steps_for acts (fresh_sharing p) cs o ≡ call_steps (act_on p sources) (fresh_sharing p) passed o
      same_steps = let w = both_matched p sources o low ran in sym (steps_same (act p (source_for sources o)) w.1) ∙ steps_same
          (act p (source_for sources o)) w.2

      same_turns : (b : ℕ) → turns_of b (events_for acts (fresh_sharing p) cs o) (answers_for acts (fresh_sharing p) cs o) ≡ turns_of b (events_of o passed) numbers
      same_turns b = let w = both_matched p sources o low ran in turns_same (act p (source_for sources o)) b w.1 ∙ sym
          (turns_same (act p (source_for sources o)) b w.2)

      same_brings : (m : ℕ) → deliveries_of m (events_for acts (fresh_sharing p) cs o) (answers_for acts (fresh_sharing p) cs o) ≡ deliveries_of m
          (events_of o passed) numbers
      same_brings m = let w = both_matched p sources o low ran in brings_same (act p (source_for sources o)) m w.1 ∙ sym
          (brings_same (act p (source_for sources o)) m w.2)

      -- a turn that gave 0 is the next of its program
      carried : (h : Moment) (b : ℕ) → (acts ended (turn_at_by o h b)).number ≡ 0
          → CarriedOutFor p (source_for sources o) ended (acts ended (turn_at_by o h b)).after o b
          (turns_of b (events_for acts (fresh_sharing p) cs o) (answers_for acts (fresh_sharing p) cs o))
      unfolding call_of event_of
      carried h b z =
          rw (
            same_turns b,
            after_of (is_plain (SharingInv p sources) (act_on p sources) acts call_of allowed gd good_next ended inv (turn_at_by o h b) z),
            sym
                led_to,
          )
          (((theorem208 p so sources (passed ++ (record { tenant = o; event = turn_of b } ∷ []))).each o low).carried_out passed [] b refl
          (rw led_to (plain_zero (SharingInv p sources) (act_on p sources) acts call_of allowed gd good_next ended inv (turn_at_by o h b) z)))

    -- the sharing's call, with hours
    with_hours : (calendar : List ℕ) → Faultless p calendar → (o : ℕ) (e : Event) → (act_on p sources ended (record { tenant = o; event = e })).number ≡ 0
        → OnlyHoursFor acts (fresh_sharing p) cs p calendar
    unfolding call_of event_of
    with_hours calendar f o (turn_of b) z =
        let q = call_facts p sources ended o b z in
        OnlyHoursFor.when_open o b (call_tenant p sources ended (record { tenant = o; event = turn_of b }) z) q.0 q.1
        (λ minute low h. guarded_zero (SharingInv p sources) (act_on p sources) acts call_of allowed gd good_next ended inv
        (turn_at_by o (moment_of calendar minute) b) (turn_allowed calendar minute o b f low h) z)
    with_hours calendar f o (delivery_of m) z =
        OnlyHoursFor.by_mail o m (guarded_zero (SharingInv p sources) (act_on p sources) acts call_of allowed gd good_next ended inv (mail_by o m)
        (mail-allowed o m) z)

    -- either tenant has fewer steps, in one list and in the other
    abbrev Fewer : Type 0
    Fewer = (steps_for acts (fresh_sharing p) cs 0 < total p) ⊎ (steps_for acts (fresh_sharing p) cs 1 < total p)

    abbrev FewerThere : Type 0
    FewerThere = (call_steps (act_on p sources) (fresh_sharing p) passed 0 < total p) ⊎ (call_steps (act_on p sources) (fresh_sharing p) passed 1 < total p)

    there : Fewer → FewerThere
    there (inl h) = inl (rw (same_steps 0 (omega arith)) at h)
    there (inr h) = inr (rw (same_steps 1 (omega arith)) at h)

    back : FewerThere → Fewer
    back (inl h) = inl (rw (same_steps 0 (omega arith)) h)
    back (inr h) = inr (rw (same_steps 1 (omega arith)) h)

    only_hours : (calendar : List ℕ) → Faultless p calendar → Fewer → OnlyHoursFor acts (fresh_sharing p) cs p calendar
    only_hours calendar f h =
        let g = plainly.goes_on (there h) in
        with_hours calendar f g.0.tenant g.0.event (rw led_to at g).1

    at_open : (calendar : List ℕ) → ((o b : ℕ) → o ≤ 1 → b < p.processors → tiles_left p (own_of ended o) b ≡ true → OpensSometime calendar b) → OnlyHoursFor
        acts (fresh_sharing p) cs p calendar
        → SomeCall acts (fresh_sharing p) cs calendar
    at_open calendar opens (OnlyHoursFor.by_mail o m z) = SomeCall.by_mail o m z
    at_open calendar opens (OnlyHoursFor.when_open o b q low left f) =
        let w = opens o b q low left in
        SomeCall.by_turn o b w.0 w.1 w.2 (f w.0 w.1 w.2)

    module _ (collects : Sharing → ℕ → List ℕ → Answered (List ℕ))
        (same-grid : (r : Sharing) → SharingInv p sources r → (o : ℕ) (grid : List ℕ) → length grid ≡ p.cells → collects r o grid ≡ collect_on p r o grid) where
      grid_is : (o : ℕ) (grid : List ℕ) → length grid ≡ p.cells → collects ended o grid ≡ collect_on p (state_after (act_on p sources) (fresh_sharing p) passed) o
          grid
      grid_is o grid len = rw led_to (same-grid ended inv o grid len)

      -- `carry`: what `carried` says of the lists before a turn
      one_tenant : (o : ℕ) (low : o ≤ 1)
          → ((before : List TimedCall) (h : Moment) (b : ℕ) → (acts (state_after acts (fresh_sharing p) before) (turn_at_by o h b)).number ≡ 0
          → CarriedOutFor p (source_for sources o) (state_after acts (fresh_sharing p) before)
          (acts (state_after acts (fresh_sharing p) before) (turn_at_by o h b)).after o b
          (turns_of b (events_of o (map call_of before)) (answers_of o (map call_of before) (answers_to acts (fresh_sharing p) before))))
          → TenantDemand212 acts (fresh_sharing p) cs p o (source_for sources o) collects
      one_tenant o low carry =
          record {
            once = once_like p _ _ _ _ same (same_turns o low) (same_brings o low) D.once;
            collecting =
                collects_like p (source_for sources o) (steps_for acts (fresh_sharing p) cs o ≡ total p) _ (collects ended o) _ (λ e. sym same ∙ e)
                (λ e. same ∙ e) (grid_is o) D.collecting;
            carried_out = λ before after h b e z. carry before h b z;
          }
        where
          D : TenantDemand (act_on p sources) (fresh_sharing p) passed p o (source_for sources o) (collect_on p)
          D = plainly.each o low

          same : steps_for acts (fresh_sharing p) cs o ≡ call_steps (act_on p sources) (fresh_sharing p) passed o
          same = same_steps o low

  pub demand212_for : (cs : List TimedCall) (collects : Sharing → ℕ → List ℕ → Answered (List ℕ))
      → ((r : Sharing) → SharingInv p sources r → (o : ℕ) (grid : List ℕ) → length grid ≡ p.cells → collects r o grid ≡ collect_on p r o grid)
      → Demand212For acts (fresh_sharing p) cs p sources collects
  demand212_for cs collects same-grid =
      record {
        each = λ o low. one_tenant cs collects same-grid o low (λ before h b z. carried before o low h b z);
        goes_on = λ calendar f opens h. at_open cs calendar opens (only_hours cs calendar f h);
        then_fewer = λ c z.
            back cs
            ((plainly cs).then_fewer (call_of c)
            (rw (led_to cs) (plain_zero (SharingInv p sources) (act_on p sources) acts call_of allowed gd good_next (last acts (fresh_sharing p) cs) (inv cs) c
            z)));
        only_hours = only_hours cs;
      }

pub theorem212_for : (p : Plan) → Sound p → (sources : Sources) (calls : List TimedCall)
    → Demand212For (act_at_on p sources) (fresh_sharing p) calls p sources (collect_on p)
theorem212_for p so sources calls =
    demand212_for p so sources (act_at_on p sources) (λ c. Allowed p c.event) (guards_for p sources) (λ o m. tt)
    (λ calendar minute o b f low h. open_allowed p calendar minute b f low h) calls (collect_on p) (λ r inv o grid len. refl)

-- ---- isolation
module _ (p : Plan) (so : Sound p) (o : ℕ) (low : o ≤ 1) (sources : Sources) (acts : Sharing → TimedCall → Answered Sharing) (allowed : TimedCall → Type 0)
    (gd : Guards (SharingInv p sources) (act_on p sources) acts call_of allowed) (calls : List TimedCall) where
  alone : (ps : List Event)
      × Passed (act p (source_for sources o)) (own_of (fresh_sharing p) o) (events_for acts (fresh_sharing p) calls o) (answers_for acts (fresh_sharing p) calls o) ps
      (own_of (last acts (fresh_sharing p) calls) o)
  alone =
      let w = passes (SharingInv p sources) (act_on p sources) acts call_of allowed gd (inv_next p so sources) calls (fresh_sharing p) (inv_start p sources) in
      let m = both_matched p sources o low w.1 in
      (m.0, m.1)

pub isolated_at : (p : Plan) → Sound p → (o : ℕ) → o ≤ 1 → (sources sources' : Sources) → source_for sources o ≡ source_for sources' o
    → (acts acts' : Sharing → TimedCall → Answered Sharing) (allowed allowed' : TimedCall → Type 0)
    → Guards (SharingInv p sources) (act_on p sources) acts call_of allowed → Guards (SharingInv p sources') (act_on p sources') acts' call_of allowed'
    → IsolatedAt o acts acts' (fresh_sharing p) (fresh_sharing p)
isolated_at p so o low sources sources' same acts acts' allowed allowed' gd gd' =
    record {
      same_words = λ calls calls' e1 e2.
          one_end (act p (source_for sources' o)) (rw (same, e1, e2) at (alone p so o low sources acts allowed gd calls).1)
          (alone p so o low sources' acts' allowed' gd' calls').1;
    }
