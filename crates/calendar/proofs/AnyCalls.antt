-- Demand 2's words for turns with hours, and demands 2 and 3 for lists that mix plain and timed turns: both kinds of calls are guarded, so their
-- mixture is, and the claims of machine and tenants about guarded calls hold of it.
use Prim.Native.Nat.{ℕ, ◌≤◌, ◌<◌}
use mathlib.Core.Path.{◌≡◌, refl}
use mathlib.Core.Logic.{inl, inr}
use mathlib.Core.Bool.{true}
use mathlib.Core.List.{List, []}
use lib.ListN.{length}
use Rattle.machine.specs.Plan.{Plan, Sound}
use Rattle.machine.specs.Machine.{State, Answered, tiles_left, collect, fresh}
use Rattle.machine.specs.Runs.{Event, turn_of, delivery_of, act, state_after, total}
use Rattle.machine.specs.AnyCalls.{whole, mixed, either, steps_of, WordsIn}
use Rattle.machine.proofs.Kept.{Inv}
use Rattle.machine.proofs.Fresh.{inv_fresh}
use Rattle.machine.proofs.Along.{next_inv}
use Rattle.machine.proofs.Guards.{Guards, guarded_zero, good_end}
use Rattle.machine.proofs.AnyCalls.{follows, likewise, demand3_in, words_in, goes_on, Allowed as Both, guards_mixed}
use Rattle.tenants.specs.Tenants.{Sharing, Sources, own_of, fresh_sharing, Call, act_on, collect_on}
use Rattle.tenants.proofs.OneCall.{call_tenant}
use Rattle.tenants.proofs.Engaged.{SharingInv, inv_next}
use Rattle.tenants.proofs.Views.{sharing_itself, words208, demand3_for, goes_plain, goes_on_for, good_at}
use Rattle.calendar.specs.Windows.{week, open_at, moment_of, Timed, turn_at, mail_of, event_of, act_at, TimedCall, call_of, act_at_on}
use Rattle.calendar.specs.Demands212.{Faultless, OpensSometime, turn_at_by, mail_by, SomeStep, SomeCall}
use Rattle.calendar.specs.AnyCalls.{Words212, Words212For, Mixed, mixed_event, act_mixed, MixedCall, mixed_call, act_mixed_on, Mixed212, Mixed212For}
use Rattle.calendar.proofs.Allowed.{Allowed, open_allowed, guards, guards_for}
use Rattle.calendar.proofs.OneTenant.{turn_facts}
use Rattle.calendar.proofs.TwoTenants.{call_facts}

-- ---- one tenant
module _ (p : Plan) (so : Sound p) (source : List ℕ) where
  -- any calls that are guarded: with hours, or mixed
  pub words_guarded : {X : Type 0} (event : X → Event) (calls : State → X → Answered State) (allowed : X → Type 0)
      → Guards (Inv p source) (act p source) calls event allowed → WordsIn (whole event) calls (fresh p) p source
  words_guarded event calls allowed gd =
      words_in p so source (Inv p source) (whole event) calls (follows p so source calls event allowed gd) (fresh p) (inv_fresh p source) refl

  pub words212 : Words212 (act_at p source) (fresh p) p source
  words212 = words_guarded event_of (act_at p source) (Allowed p) (guards p source)

  -- plain calls that answer as the machine does, and calls with hours that do so where they are allowed: mail always, a turn at an open minute of a
  -- faultless table
  module _ (plain : State → Event → Answered State) (alike : (s : State) → Inv p source s → (e : Event) → plain s e ≡ act p source s e)
      (timed : State → Timed → Answered State) (allowed : Timed → Type 0) (gd : Guards (Inv p source) (act p source) timed event_of allowed)
      (mail-allowed : (m : ℕ) → allowed (mail_of m))
      (turn_allowed : (calendar : List ℕ) (minute b : ℕ) → Faultless p calendar → minute < week → open_at calendar b minute ≡ true
      → allowed (turn_at (moment_of calendar minute) b)) (calls : List Mixed) where
    abbrev acts : State → Mixed → Answered State
    acts = mixed plain timed

    abbrev Allows : Mixed → Type 0
    Allows = Both (Inv p source) (act p source) plain timed (λ e. e) event_of (λ e. Unit {0}) allowed

    both : Guards (Inv p source) (act p source) acts mixed_event Allows
    both =
        guards_mixed (Inv p source) (act p source) plain timed (λ e. e) event_of (λ e. Unit {0}) allowed (likewise p source plain alike) gd

    abbrev ended : State
    ended = state_after acts (fresh p) calls

    inv : Inv p source ended
    inv = good_end (Inv p source) (act p source) acts mixed_event Allows both (next_inv p so source) calls (fresh p) (inv_fresh p source)

    -- the machine's event gives 0, and so does one of these
    gives : (x : Mixed) → Allows x → (act p source ended (mixed_event x)).number ≡ 0 → (acts ended x).number ≡ 0
    gives x a z = guarded_zero (Inv p source) (act p source) acts mixed_event Allows both (next_inv p so source) ended inv x a z

    next : steps_of (whole mixed_event) acts (fresh p) calls < total p → (e : Event) × ((act p source ended e).number ≡ 0)
    next h =
        goes_on p so source (Inv p source) (whole mixed_event) acts (follows p so source acts mixed_event Allows both) (fresh p) (inv_fresh p source) refl
        calls h

    at_open : (calendar : List ℕ) → Faultless p calendar → ((b : ℕ) → b < p.processors → tiles_left p ended b ≡ true → OpensSometime calendar b)
        → (e : Event) → (act p source ended e).number ≡ 0 → SomeStep (λ s x. acts s (inr x)) ended [] calendar
    unfolding state_after either event_of
    at_open calendar f opens (turn_of b) z =
        let q = turn_facts p source ended b z in
        let w = opens b q.0 q.1 in
        SomeStep.by_turn b w.0 w.1 w.2
        (gives (inr (turn_at (moment_of calendar w.0) b)) (turn_allowed calendar w.0 b f w.1 w.2) z)
    at_open calendar f opens (delivery_of m) z = SomeStep.by_mail m (gives (inr (mail_of m)) (mail-allowed m) z)

    pub mixed212_for : (collects : State → List ℕ → Answered (List ℕ))
        → ((s : State) → Inv p source s → (grid : List ℕ) → length grid ≡ p.cells → collects s grid ≡ collect p s grid)
        → Mixed212 acts (fresh p) p source collects calls
    unfolding either
    mixed212_for collects same-grid =
        record {
          demand =
              demand3_in p so source (Inv p source) (whole mixed_event) acts (follows p so source acts mixed_event Allows both) (fresh p) (inv_fresh p source)
              refl collects same-grid calls;
          words = words_guarded mixed_event acts Allows both;
          goes_on = λ h. let g = next h in (g.0, gives (inl g.0) tt g.1);
          goes_on_at = λ calendar f opens h. let g = next h in at_open calendar f opens g.0 g.1;
        }

  pub mixed212 : (calls : List Mixed) → Mixed212 (act_mixed p source) (fresh p) p source (collect p) calls
  mixed212 calls =
      mixed212_for (act p source) (λ s inv e. refl) (act_at p source) (Allowed p) (guards p source) (λ m. tt)
      (λ calendar minute b f low h. open_allowed p calendar minute b f low h) calls (collect p) (λ s inv grid len. refl)

-- ---- two tenants
module _ (p : Plan) (so : Sound p) (sources : Sources) where
  pub words212_for : Words212For (act_at_on p sources) (fresh_sharing p) p sources
  words212_for = words208 p so sources call_of (act_at_on p sources) (λ c. Allowed p c.event) (guards_for p sources)

  module _ (plain : Sharing → Call → Answered Sharing)
      (gd : Guards (SharingInv p sources) (act_on p sources) plain (λ c. c) (λ c. Unit {0}))
      (timed : Sharing → TimedCall → Answered Sharing) (allowed : TimedCall → Type 0)
      (gd' : Guards (SharingInv p sources) (act_on p sources) timed call_of allowed)
      (mail-allowed : (o m : ℕ) → allowed (mail_by o m))
      (turn_allowed : (calendar : List ℕ) (minute o b : ℕ) → Faultless p calendar → minute < week → open_at calendar b minute ≡ true
      → allowed (turn_at_by o (moment_of calendar minute) b)) (calls : List MixedCall) where
    abbrev G : Sharing → Type 0
    G = SharingInv p sources

    abbrev acts_for : Sharing → MixedCall → Answered Sharing
    acts_for = mixed plain timed

    abbrev AllowsFor : MixedCall → Type 0
    AllowsFor = Both G (act_on p sources) plain timed (λ c. c) call_of (λ c. Unit {0}) allowed

    both_for : Guards G (act_on p sources) acts_for mixed_call AllowsFor
    both_for = guards_mixed G (act_on p sources) plain timed (λ c. c) call_of (λ c. Unit {0}) allowed gd gd'

    abbrev sharing : Sharing
    sharing = state_after acts_for (fresh_sharing p) calls

    gives_for : (x : MixedCall) → AllowsFor x → (act_on p sources sharing (mixed_call x)).number ≡ 0 → (acts_for sharing x).number ≡ 0
    gives_for x a z =
        guarded_zero G (act_on p sources) acts_for mixed_call AllowsFor both_for (inv_next p so sources) sharing
        (good_at p so sources mixed_call acts_for AllowsFor both_for calls) x a z

    at_open_for : (calendar : List ℕ) → Faultless p calendar
        → ((o b : ℕ) → o ≤ 1 → b < p.processors → tiles_left p (own_of sharing o) b ≡ true → OpensSometime calendar b)
        → (o : ℕ) (e : Event) → (act_on p sources sharing (record { tenant = o; event = e })).number ≡ 0 → SomeCall (λ r c. acts_for r (inr c)) sharing [] calendar
    unfolding state_after either call_of event_of
    at_open_for calendar f opens o (turn_of b) z =
        let low = call_tenant p sources sharing (record { tenant = o; event = turn_of b }) z in
        let q = call_facts p sources sharing o b z in
        let w = opens o b low q.0 q.1 in
        SomeCall.by_turn o b w.0 w.1 w.2
        (gives_for (inr (turn_at_by o (moment_of calendar w.0) b)) (turn_allowed calendar w.0 o b f w.1 w.2) z)
    at_open_for calendar f opens o (delivery_of m) z = SomeCall.by_mail o m (gives_for (inr (mail_by o m)) (mail-allowed o m) z)

    pub mixed212_on : (collects : Sharing → ℕ → List ℕ → Answered (List ℕ))
        → ((r : Sharing) → G r → (o : ℕ) (grid : List ℕ) → length grid ≡ p.cells → collects r o grid ≡ collect_on p r o grid)
        → Mixed212For acts_for (fresh_sharing p) p sources collects calls
    unfolding either
    mixed212_on collects same-grid =
        record {
          demand = demand3_for p so sources mixed_call acts_for AllowsFor both_for collects same-grid calls;
          words = words208 p so sources mixed_call acts_for AllowsFor both_for;
          goes_on = goes_on_for p so sources mixed_call acts_for AllowsFor both_for calls inl (λ c. refl) (λ c. tt);
          goes_on_at = λ calendar f opens h.
              let g = goes_plain p so sources mixed_call acts_for AllowsFor both_for calls h in
              at_open_for calendar f opens g.0.tenant g.0.event g.1;
        }

  pub mixed212_two : (calls : List MixedCall) → Mixed212For (act_mixed_on p sources) (fresh_sharing p) p sources (collect_on p) calls
  mixed212_two calls =
      mixed212_on (act_on p sources) (sharing_itself p sources) (act_at_on p sources) (λ c. Allowed p c.event) (guards_for p sources) (λ o m. tt)
      (λ calendar minute o b f low h. open_allowed p calendar minute b f low h) calls (collect_on p) (λ r inv o grid len. refl)
