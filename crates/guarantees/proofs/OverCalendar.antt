-- Request W-212 holds of the calls as exported, board records as structs.
use Rattle.std.specs.Prelude.{None, Option, Some}
use Prim.Native.Nat.{ℕ, ◌≤◌}
use mathlib.Core.Path.{◌≡◌, refl, sym, ap, subst, ◌∙◌}
use mathlib.Core.Bool.{true}
use mathlib.Core.List.{List, map}
use lib.ListN.{length}
use Rattle.base.specs.Lists.{Bytes}
use Rattle.machine.specs.Machine.{State, tiles_left}
use Rattle.machine.specs.Runs.{delivery_of, state_after, answers_to}
use Rattle.machine.proofs.RunLaws.{number_of, after_of}
use Rattle.tenants.specs.Tenants.{TenantAreas, Sharing, Sources, source_for, lent_to, own_of, put_back, carry_out_for}
use Rattle.tenants.specs.Demand208.{events_of, answers_of}
use Rattle.calendar.specs.Windows.{Moment, Timed, turn_at, mail_of, TimedCall, call_of, until_open}
use Rattle.calendar.specs.Demands212.{SomeStep, OnlyHours, SomeCall, OnlyHoursFor, Demand212, Demand212For, IsolatedAt}
use Rattle.calendar.proofs.Telling.{tells}
use Rattle.records.specs.declared.Progress.{Progress}
use Rattle.records.specs.Records.{flat_words}
use Rattle.records.proofs.Words.{length_words}
use Rattle.engine.specs.Calls.{answer, recipe, collect_call}
use Rattle.engine.proofs.Demands as engine
use Rattle.sharing.specs.Calls.{sharing_collects}
use Rattle.calendar_calls.specs.Calls.{turn_call_at, turn_call_at_for, calls_at, call_at_for, sharing_calls_at}
use Rattle.calendar_calls.proofs.Demands.{timed_demands}
use Rattle.calendar_calls.specs.Calls.{opens_lines}
use Rattle.calls.specs.declared.hour.NextOpening.{NextOpening}
use Rattle.calls.specs.Opens.{tells as told, opening_told, opens_if, opens_of}
use Rattle.calls.specs.Tells.{Tells}
use Rattle.calls.proofs.Tells.{tells_by}
use Rattle.calls.specs.Gave.{Areas, in_words, LentAreas, lent_words, SharingAreas, sharing_words}
use Rattle.calls.specs.Gave.{FreshGave, CollectGave, FreshBothGave, TimedGave, TenantTimedGave, OpensGave}
use Rattle.guarantees.specs.OverRecords.{Gave}
use Rattle.guarantees.specs.OverSharing.{own_areas, other_areas, lent_areas, CollectGaveFor}
use Rattle.guarantees.specs.OverCalendar.{TimedCallGave, FixedHours, Gives, NextStep, NextOpen, TimedRun}
use Rattle.guarantees.specs.OverCalendar.{NextCall, NextOpenFor, TimedSharingRun, OverCalendar}
use Rattle.guarantees.proofs.OverRecords as one
use Rattle.guarantees.proofs.OverRecords.{run_numbers, run_words, whole_pick, can_answer, areas_fixed, fixed_as, one_answer, as_before}
use Rattle.guarantees.proofs.OverRecords.{Whole, areas_from, in_words_lem, length_carry, over_records}
use Rattle.guarantees.proofs.OverSharing.{lent_fixed, sharing_fixed, tenant_words, lent_words_lem, other_words, returned_is, whole_lent}
use Rattle.guarantees.proofs.OverSharing.{can_tenant, among, among_own, among_other, collect_length, collect_words}

zero_told : (o : Option ℕ) → (opening_told o).number ≡ 0
unfolding opening_told
zero_told (Some m) = refl
zero_told None = refl

module _ (bytes : List ℕ) (route : ℕ) where
  -- ---- a contract, by the calls over words

  pub event_call : (source : List ℕ) (a : Areas) (x : Timed) (n : ℕ) (b : Areas) → TimedGave bytes route source a x n b
      → answer n (in_words b) ≡ calls_at bytes route source (in_words a) x
  unfolding calls_at
  event_call source a (turn_at h p) n b e = e
  event_call source a (mail_of m) n b e = e

  tenant_call : (source : List ℕ) (o : ℕ) (theirs : List Progress) (a : LentAreas) (x : Timed) (n : ℕ) (b : LentAreas)
      → TenantTimedGave bytes route source o theirs a x n b
      → answer n (lent_words b) ≡ call_at_for bytes route source o (lent_words a) (flat_words theirs) x
  unfolding call_at_for
  tenant_call source o theirs a (turn_at h p) n b e = e
  tenant_call source o theirs a (mail_of m) n b e = e

  pub sharing_call : (sources : Sources) (a : SharingAreas) (c : TimedCall) (n : ℕ) (b : SharingAreas) → TimedCallGave bytes route sources a c n b
      → answer n (sharing_words b) ≡ sharing_calls_at bytes route sources (sharing_words a) c
  unfolding sharing_calls_at
  sharing_call sources a c n b h =
      ap (λ (r : Sharing). answer n r) (sym (returned_is a b c.tenant h.others))
      ∙ ap (put_back (sharing_words a) c.tenant)
      (tenant_call (source_for sources c.tenant) c.tenant (other_areas a c.tenant).progress (lent_areas a c.tenant) c.event n
      (lent_areas b c.tenant) h.gave
      ∙ ap (λ (l : TenantAreas). call_at_for bytes route (source_for sources c.tenant) c.tenant l
      (flat_words (other_areas a c.tenant).progress) c.event)
      (lent_words_lem a c.tenant)
      ∙ ap (λ (l : List ℕ). call_at_for bytes route (source_for sources c.tenant) c.tenant (lent_to (sharing_words a) c.tenant) l c.event)
      (other_words a c.tenant))

  -- ---- the contracts can be kept

  whole_at : (source : List ℕ) (a : Areas) (h : Moment) (p : ℕ) → Whole (turn_call_at bytes route source h (in_words a) p).after.progress
  unfolding turn_call_at
  whole_at source a h p =
      whole_pick _ _ (in_words a)
      (length a.progress, length_carry (recipe bytes route) source (in_words a) p _ ∙ length_words a.progress)
      (length a.progress, length_words a.progress)

  can_event : (source : List ℕ) (a : Areas) (x : Timed) → (n : ℕ) × ((b : Areas) × TimedGave bytes route source a x n b)
  can_event source a (turn_at h p) = can_answer (turn_call_at bytes route source h (in_words a) p) (whole_at source a h p)
  can_event source a (mail_of m) = (over_records bytes route source).one.can_event a (delivery_of m)

  module _ (source : List ℕ) (o : ℕ) (theirs : List Progress) (a : LentAreas) where
    whole_turn : (h : Moment) (p : ℕ) → Whole (turn_call_at_for bytes route source o h (lent_words a) (flat_words theirs) p).after.own.progress
    unfolding turn_call_at_for carry_out_for
    whole_turn h p =
        whole_lent _ _ (lent_words a)
        (length a.own.progress, length_carry (recipe bytes route) source (in_words a.own) p _ ∙ length_words a.own.progress)
        (length a.own.progress, length_words a.own.progress)

    can_tenant_at : (x : Timed) → (n : ℕ) × ((b : LentAreas) × TenantTimedGave bytes route source o theirs a x n b)
    can_tenant_at (turn_at h p) =
        let r = turn_call_at_for bytes route source o h (lent_words a) (flat_words theirs) p in
        let s = in_words_lem r.after.own (whole_turn h p) in (
          r.number,
          (
            record { own = areas_from r.after.own; engaged = r.after.engaged },
            ap (λ (s : State). answer r.number (record { own = s; engaged = r.after.engaged })) s,
          ),
        )
    can_tenant_at (mail_of m) = can_tenant bytes route source o theirs a (delivery_of m)

  can_call : (sources : Sources) (a : SharingAreas) (c : TimedCall) → (n : ℕ) × ((b : SharingAreas) × TimedCallGave bytes route sources a c n b)
  can_call sources a c = (
    r.0,
    (
      among bytes route sources a o r.1.0,
      record {
        gave =
            subst (TenantTimedGave bytes route (source_for sources o) o (other_areas a o).progress (lent_areas a o) c.event r.0)
            (sym (among_own bytes route sources a o r.1.0)) r.1.1;
        others = among_other bytes route sources a o r.1.0;
      },
    ),
  )
    where
      o : ℕ
      o = c.tenant

      r : (n : ℕ) × ((b : LentAreas) × TenantTimedGave bytes route (source_for sources o) o (other_areas a o).progress (lent_areas a o)
          c.event n b)
      r = can_tenant_at (source_for sources o) o (other_areas a o).progress (lent_areas a o) c.event

  -- ---- demand 1

  opens_tells : (h : Moment) (b : ℕ) (r : NextOpening) → OpensGave bytes h b r
      → Tells (λ o. o.number) (opens_lines bytes h b) (opening_told (until_open h.calendar h.minute b)) (λ n. told n 0 0) r
  unfolding opens_of opens_if
  opens_tells h b r e =
      tells_by (λ (o : NextOpening). o.number) (λ n. opens_if n (until_open h.calendar h.minute b)) (opening_told (until_open h.calendar h.minute b))
      (λ n. told n 0 0) refl (λ n. refl) (zero_told (until_open h.calendar h.minute b)) (λ n. refl) (opens_lines bytes h b) r e

  fixed_hours : FixedHours bytes route
  fixed_hours =
      record {
        turn = λ source a b h p n e.
            let f = (timed_demands.calls bytes route source h p).turn (in_words a) in
            record { fixed = fixed_as e f; as_before = as_before in_words areas_fixed a b n e f };
        tenant_turn = λ source o theirs a b h p n e.
            let f = (timed_demands.calls bytes route source h p).tenant_turn o (lent_words a) (flat_words theirs) in
            record { fixed = fixed_as e f; as_before = as_before lent_words lent_fixed a b n e f };
        opens = opens_tells;
        tells_opening = λ h b r e z. let o = opens_tells h b r e in (o.works (sym o.first ∙ z), tells h.calendar h.minute b);
        can_event = can_event;
        can_call = can_call;
        one_event = λ source a b c x n k g h.
            one_answer in_words areas_fixed b c n k (event_call source a x n b g) (event_call source a x k c h);
        one_call = λ sources a b d c n k g h.
            one_answer sharing_words sharing_fixed b d n k (sharing_call sources a c n b g) (sharing_call sources a c k d h);
      }

  -- ---- demand 3, one tenant

  module _ (source : List ℕ) (a start b : Areas) (events : List Timed) (numbers : List ℕ) (fresh : FreshGave bytes route source a 0 start)
      (gave : Gave (TimedGave bytes route source) start events numbers b) (small : Bytes bytes) where
    ns : numbers ≡ answers_to (calls_at bytes route source) (in_words start) events
    ns = run_numbers _ in_words (calls_at bytes route source) (event_call source) gave

    ws : in_words b ≡ state_after (calls_at bytes route source) (in_words start) events
    ws = run_words _ in_words (calls_at bytes route source) (event_call source) gave

    demand : Demand212 (calls_at bytes route source) (in_words start) events (recipe bytes route) source (collect_call bytes route source)
    demand =
        subst (λ (s : State). Demand212 (calls_at bytes route source) s events (recipe bytes route) source (collect_call bytes route source))
        (sym (after_of fresh)) (timed_demands.runs bytes route source (in_words a) small (sym (number_of fresh)) events)

    -- the next call, on the areas `b`
    next_number : (x : Timed) (n : ℕ) (c : Areas) → TimedGave bytes route source b x n c
        → n ≡ (calls_at bytes route source (state_after (calls_at bytes route source) (in_words start) events) x).number
    next_number x n c h =
        number_of (event_call source b x n c h) ∙ ap (λ (s : State). (calls_at bytes route source s x).number) ws

    gives : (x : Timed) → (calls_at bytes route source (state_after (calls_at bytes route source) (in_words start) events) x).number ≡ 0
        → Gives (TimedGave bytes route source) b x
    gives x z n c h = next_number x n c h ∙ z

    next_step : (table : List ℕ) → SomeStep (calls_at bytes route source) (in_words start) events table
        → NextStep bytes route source start events numbers b table
    next_step table (SomeStep.by_mail m z) = NextStep.by_mail m (gives (mail_of m) z)
    next_step table (SomeStep.by_turn p minute low e z) = NextStep.by_turn p minute low e (gives _ z)

    next_open : (table : List ℕ) → OnlyHours (calls_at bytes route source) (in_words start) events (recipe bytes route) table
        → NextOpen bytes route source start events numbers b table
    next_open table (OnlyHours.by_mail m z) = NextOpen.by_mail m (gives (mail_of m) z)
    next_open table (OnlyHours.when_open p low left z) =
        NextOpen.when_open p low (subst (λ (s : State). tiles_left (recipe bytes route) s p ≡ true) (sym ws) left)
        (λ minute in_week e. gives _ (z minute in_week e))

    collect_is : (old grid : List ℕ) (n : ℕ) → CollectGave bytes route source b old n grid
        → answer n grid ≡ collect_call bytes route source (state_after (calls_at bytes route source) (in_words start) events) old
    collect_is old grid n h = h ∙ ap (λ (s : State). collect_call bytes route source s old) ws

    timed_run : TimedRun bytes route source start events numbers b
    timed_run =
        record {
          numbers_are = ns;
          words_are = ws;
          demand = demand;
          goes_on = λ table f opens h. next_step table (demand.goes_on table f (λ p low left.
              opens p low (subst (λ (s : State). tiles_left (recipe bytes route) s p ≡ true) (sym ws) left)) (rw ns at h));
          then_fewer = λ x c h. rw ns (demand.then_fewer x (sym (next_number x 0 c h)));
          only_hours = λ table f h. next_open table (demand.only_hours table f (rw ns at h));
          collects = λ old grid n l h. (
            (λ z. rw ns (demand.collecting.then_all old l (sym (number_of (collect_is old grid n h)) ∙ z))),
            (λ t. number_of (collect_is old grid n h) ∙ demand.collecting.can_collect (rw ns at t) old l),
          );
          grid = λ old grid h.
              let z = sym (number_of (collect_is old grid 0 h)) in
              let l = one.collect_length bytes route source _ old z in
              after_of (collect_is old grid 0 h) ∙ demand.collecting.grid (demand.collecting.then_all old l z) old l;
        }

  -- ---- demand 3, two tenants

  module _ (sources : Sources) (a start b : SharingAreas) (calls : List TimedCall) (numbers : List ℕ)
      (fresh : FreshBothGave bytes route sources a 0 start)
      (gave : Gave (TimedCallGave bytes route sources) start calls numbers b) where
    sharing_ns : numbers ≡ answers_to (sharing_calls_at bytes route sources) (sharing_words start) calls
    sharing_ns = run_numbers _ sharing_words (sharing_calls_at bytes route sources) (sharing_call sources) gave

    sharing_ws : sharing_words b ≡ state_after (sharing_calls_at bytes route sources) (sharing_words start) calls
    sharing_ws = run_words _ sharing_words (sharing_calls_at bytes route sources) (sharing_call sources) gave

    -- a tenant's areas are those of the sharing after the calls
    own_ws : (o : ℕ) → in_words (own_areas b o) ≡ own_of (state_after (sharing_calls_at bytes route sources) (sharing_words start) calls) o
    own_ws o = tenant_words o b.first b.second ∙ ap (λ (r : Sharing). own_of r o) sharing_ws

    module _ (small : Bytes bytes) where
      sharing_demand : Demand212For (sharing_calls_at bytes route sources) (sharing_words start) calls (recipe bytes route) sources
          (sharing_collects bytes route sources)
      sharing_demand =
          subst (λ (r : Sharing). Demand212For (sharing_calls_at bytes route sources) r calls (recipe bytes route) sources
          (sharing_collects bytes route sources))
          (sym (after_of fresh)) (timed_demands.tenant_runs bytes route sources (sharing_words a) small (sym (number_of fresh)) calls)

      sharing_next_number : (c : TimedCall) (n : ℕ) (d : SharingAreas) → TimedCallGave bytes route sources b c n d
          → n ≡ (sharing_calls_at bytes route sources (state_after (sharing_calls_at bytes route sources) (sharing_words start) calls) c).number
      sharing_next_number c n d h =
          number_of (sharing_call sources b c n d h) ∙ ap (λ (r : Sharing). (sharing_calls_at bytes route sources r c).number) sharing_ws

      sharing_gives : (c : TimedCall)
          → (sharing_calls_at bytes route sources (state_after (sharing_calls_at bytes route sources) (sharing_words start) calls) c).number ≡ 0
          → Gives (TimedCallGave bytes route sources) b c
      sharing_gives c z n d h = sharing_next_number c n d h ∙ z

      next_call : (table : List ℕ) → SomeCall (sharing_calls_at bytes route sources) (sharing_words start) calls table
          → NextCall bytes route sources start calls numbers b table
      next_call table (SomeCall.by_mail o m z) = NextCall.by_mail o m (sharing_gives _ z)
      next_call table (SomeCall.by_turn o p minute low e z) = NextCall.by_turn o p minute low e (sharing_gives _ z)

      next_open_for : (table : List ℕ) → OnlyHoursFor (sharing_calls_at bytes route sources) (sharing_words start) calls (recipe bytes route) table
          → NextOpenFor bytes route sources start calls numbers b table
      next_open_for table (OnlyHoursFor.by_mail o m z) = NextOpenFor.by_mail o m (sharing_gives _ z)
      next_open_for table (OnlyHoursFor.when_open o p one low left z) =
          NextOpenFor.when_open o p one low (subst (λ (s : State). tiles_left (recipe bytes route) s p ≡ true) (sym (own_ws o)) left)
          (λ minute in_week e. sharing_gives _ (z minute in_week e))

      sharing_collect_is : (o : ℕ) (old grid : List ℕ) (n : ℕ) → CollectGaveFor bytes route sources b o old n grid
          → answer n grid ≡ sharing_collects bytes route sources (state_after (sharing_calls_at bytes route sources) (sharing_words start) calls) o old
      sharing_collect_is o old grid n h =
          collect_words bytes route sources b o old grid n h ∙ ap (λ (r : Sharing). sharing_collects bytes route sources r o old) sharing_ws

      timed_sharing_run : TimedSharingRun bytes route sources start calls numbers b
      timed_sharing_run =
          record {
            numbers_are = sharing_ns;
            words_are = sharing_ws;
            demand = sharing_demand;
            goes_on = λ table f opens h. next_call table (sharing_demand.goes_on table f (λ o p one low left.
                opens o p one low (subst (λ (s : State). tiles_left (recipe bytes route) s p ≡ true) (sym (own_ws o)) left)) (rw sharing_ns at h));
            then_fewer = λ c d h. rw sharing_ns (sharing_demand.then_fewer c (sym (sharing_next_number c 0 d h)));
            only_hours = λ table f h. next_open_for table (sharing_demand.only_hours table f (rw sharing_ns at h));
            collects = λ o low old grid n l h. (
              (λ z. rw sharing_ns ((sharing_demand.each o low).collecting.then_all old l (sym (number_of (sharing_collect_is o old grid n h)) ∙ z))),
              (λ t. number_of (sharing_collect_is o old grid n h) ∙ (sharing_demand.each o low).collecting.can_collect (rw sharing_ns at t) old l),
            );
            grid = λ o low old grid h.
                let z = sym (number_of (sharing_collect_is o old grid 0 h)) in
                let l = collect_length bytes route _ o _ _ old (sym (number_of h)) in
                after_of (sharing_collect_is o old grid 0 h)
                ∙ (sharing_demand.each o low).collecting.grid ((sharing_demand.each o low).collecting.then_all old l z) old l;
          }

  -- ---- two runs apart

  module _ (small : Bytes bytes) (sources sources' : Sources) (a start b a' start' b' : SharingAreas) (calls calls' : List TimedCall)
      (ks ks' : List ℕ)
      (fresh : FreshBothGave bytes route sources a 0 start) (gave : Gave (TimedCallGave bytes route sources) start calls ks b)
      (fresh' : FreshBothGave bytes route sources' a' 0 start') (gave' : Gave (TimedCallGave bytes route sources') start' calls' ks' b')
      (o : ℕ) (low : o ≤ 1) (same : source_for sources o ≡ source_for sources' o) where
    isolated : IsolatedAt o (sharing_calls_at bytes route sources) (sharing_calls_at bytes route sources') (sharing_words start) (sharing_words start')
    isolated =
        rw (after_of fresh, after_of fresh')
        (timed_demands.apart bytes route sources sources' (sharing_words a) (sharing_words a') small (sym (number_of fresh))
        (sym (number_of fresh')) o low same)

    apart : events_of o (map call_of calls) ≡ events_of o (map call_of calls')
        → answers_of o (map call_of calls) ks ≡ answers_of o (map call_of calls') ks' → own_areas b o ≡ own_areas b' o
    apart e n =
        areas_fixed (own_areas b o) (own_areas b' o)
        (own_ws sources a start b calls ks fresh gave o
        ∙ isolated.same_words calls calls' e
        (ap (answers_of o (map call_of calls)) (sym (sharing_ns sources a start b calls ks fresh gave)) ∙ n
        ∙ ap (answers_of o (map call_of calls')) (sharing_ns sources' a' start' b' calls' ks' fresh' gave'))
        ∙ sym (own_ws sources' a' start' b' calls' ks' fresh' gave' o))

pub over_hours : (bytes : List ℕ) (route : ℕ) → OverCalendar bytes route
over_hours bytes route =
    record {
      one = fixed_hours bytes route;
      three = λ small source a start b events numbers fresh gave. timed_run bytes route source a start b events numbers fresh gave small;
      tenant_three = λ small sources a start b calls numbers fresh gave.
          timed_sharing_run bytes route sources a start b calls numbers fresh gave small;
      apart = λ small sources sources' a start b a' start' b' calls calls' ks ks' f g f' g' o low same.
          apart bytes route small sources sources' a start b a' start' b' calls calls' ks ks' f g f' g' o low same;
    }
