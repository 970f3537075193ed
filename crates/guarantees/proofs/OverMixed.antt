-- Lists that mix plain turns and turns with hours, by the calls as exported: what holds of them over words holds of them over records.
use Prim.Native.Nat.{ℕ, ◌≤◌}
use mathlib.Core.Path.{◌≡◌, refl, sym, ap, subst, ◌∙◌}
use mathlib.Core.Logic.{inl, inr}
use mathlib.Core.List.{List, [], ◌∷◌, map}
use Rattle.base.specs.Tests.{pick}
use Rattle.base.specs.Lists.{Bytes}
use Rattle.machine.specs.Machine.{State, Answered}
use Rattle.machine.specs.Runs.{Event, state_after, answers_to}
use Rattle.machine.specs.StatusTells.{StatusTells}
use Rattle.machine.specs.AnyCalls.{whole, mixed, events_in, numbers_in, numbers_of}
use Rattle.machine.proofs.RunLaws.{number_of, after_of}
use Rattle.machine.proofs.AnyCalls.{likewise}
use Rattle.tenants.specs.Tenants.{Sharing, Sources, source_for, own_of, fresh_sharing}
use Rattle.tenants.specs.AnyCalls.{tenant_view, Alone208}
use Rattle.calendar.specs.AnyCalls.{Mixed, mixed_event, MixedCall, mixed_call, Mixed212, Mixed212For}
use Rattle.swaps.specs.Mixed.{Mixed214, Mixed214For}
use Rattle.swaps.proofs.Mixed.{mixed214_for, mixed214_on}
use Rattle.engine.specs.Calls.{answer, recipe, fresh_call, collect_call}
use Rattle.engine.specs.Demands as engine
use Rattle.engine.proofs.Demands.{demands}
use Rattle.engine.proofs.AsRuns.{same}
use Rattle.sharing.specs.Calls.{fresh_sharing_call, sharing_calls, sharing_collects}
use Rattle.sharing.proofs.Words as sharing
use Rattle.sharing.proofs.AsRuns.{fresh_is}
use Rattle.sharing.proofs.Demands.{sound_plan}
use Rattle.calendar_calls.specs.Calls.{calls_at, sharing_calls_at}
use Rattle.calendar_calls.specs.Demands.{mixed_calls, mixed_sharing_calls}
use Rattle.calendar_calls.proofs.AsRuns.{AllowedHere, guards, guards_for}
use Rattle.calendar_calls.proofs.Demands.{timed_demands}
use Rattle.calls.specs.Gave.{Areas, in_words, FreshGave, CollectGave, SharingAreas, sharing_words, FreshBothGave}
use Rattle.guarantees.specs.OverRecords.{Gave}
use Rattle.guarantees.specs.OverSharing.{own_areas, CollectGaveFor}
use Rattle.guarantees.specs.OverMixed.{MixedSwaps, MixedGave, MixedCallGave, MixedRun, events_by, numbers_by, MixedSharingRun, OverMixed}
use Rattle.guarantees.proofs.OverRecords as one
use Rattle.guarantees.proofs.OverRecords.{run_numbers, run_words, areas_fixed}
use Rattle.guarantees.proofs.OverSharing as two
use Rattle.guarantees.proofs.OverSharing.{tenant_words, collect_length, collect_words}
use Rattle.guarantees.proofs.OverCalendar as timed
use Rattle.guarantees.proofs.Demands214.{reads, long, so, sharing_reads, sharing_long}
use Rattle.guarantees.proofs.OverRecords214.{demand214_gave, demand214_for_gave}

-- ---- W-214 over words

mixed_swaps_one : (bytes : List ℕ) (route : ℕ) (source : List ℕ) (s : State) → Bytes bytes → (fresh_call bytes route source s).number ≡ 0
    → Mixed214 (mixed_calls bytes route source) (fresh_call bytes route source s).after
mixed_swaps_one bytes route source s b z =
    rw ((demands.one bytes route source s).fresh.works z)
    (mixed214_for (recipe bytes route) (so bytes route source s b z) source (engine.calls bytes route source) (calls_at bytes route source)
    (λ e. Unit {0}) (AllowedHere (recipe bytes route))
    (likewise (recipe bytes route) source (engine.calls bytes route source)
    (same bytes route source (reads bytes route source s b z) (so bytes route source s b z) (long bytes route source s b z)))
    (guards bytes route source (reads bytes route source s b z) (so bytes route source s b z) (long bytes route source s b z)))

mixed_swaps_two : (bytes : List ℕ) (route : ℕ) (sources : Sources) (r : Sharing) → Bytes bytes → (fresh_sharing_call bytes route sources r).number ≡ 0
    → Mixed214For (recipe bytes route) (mixed_sharing_calls bytes route sources) (fresh_sharing_call bytes route sources r).after
mixed_swaps_two bytes route sources r b z =
    rw (fresh_is bytes route sources r z)
    (mixed214_on (recipe bytes route) (sound_plan bytes route b (sharing_reads bytes route sources r b z)) sources (sharing_calls bytes route sources)
    (sharing_calls_at bytes route sources) (λ c. Unit {0}) (λ c. AllowedHere (recipe bytes route) c.event)
    (sharing.guards bytes route sources (sharing_reads bytes route sources r b z) (sharing_long bytes route sources r b z))
    (guards_for bytes route sources (sharing_reads bytes route sources r b z) (sharing_long bytes route sources r b z)))

pub mixed_swaps : MixedSwaps
mixed_swaps = record { one = mixed_swaps_one; two = mixed_swaps_two }

-- ---- where all calls are ours, all events and numbers are

module _ {X : Type 0} (event : X → Event) where
  whole_events : (xs : List X) → events_in (whole event) xs ≡ map event xs
  unfolding events_in pick
  whole_events [] = refl
  whole_events (x ∷ xs) = ap (λ (l : List Event). event x ∷ l) (whole_events xs)

  whole_numbers : (acts : State → X → Answered State) (s : State) (xs : List X)
      → numbers_in (whole event) xs (answers_to acts s xs) ≡ answers_to acts s xs
  unfolding numbers_in answers_to pick
  whole_numbers acts s [] = refl
  whole_numbers acts s (x ∷ xs) = ap (λ (l : List ℕ). (acts s x).number ∷ l) (whole_numbers acts (acts s x).after xs)

-- ---- over records

module _ (bytes : List ℕ) (route : ℕ) where
  mixed_call_lem : (source : List ℕ) (a : Areas) (x : Mixed) (n : ℕ) (b : Areas) → MixedGave bytes route source a x n b
      → answer n (in_words b) ≡ mixed_calls bytes route source (in_words a) x
  unfolding mixed
  mixed_call_lem source a (inl e) n b h = one.event_call bytes route source a e n b h
  mixed_call_lem source a (inr x) n b h = timed.event_call bytes route source a x n b h

  mixed_sharing_call : (sources : Sources) (a : SharingAreas) (x : MixedCall) (n : ℕ) (b : SharingAreas) → MixedCallGave bytes route sources a x n b
      → answer n (sharing_words b) ≡ mixed_sharing_calls bytes route sources (sharing_words a) x
  unfolding mixed
  mixed_sharing_call sources a (inl c) n b h = two.sharing_call bytes route sources a c n b h
  mixed_sharing_call sources a (inr c) n b h = timed.sharing_call bytes route sources a c n b h

  -- ---- one tenant
  module _ (small : Bytes bytes) (source : List ℕ) (a start b : Areas) (calls : List Mixed) (numbers : List ℕ)
      (fresh : FreshGave bytes route source a 0 start) (gave : Gave (MixedGave bytes route source) start calls numbers b) where
    abbrev acts : State → Mixed → Answered State
    acts = mixed_calls bytes route source

    ns : numbers ≡ answers_to acts (in_words start) calls
    ns = run_numbers _ in_words acts (mixed_call_lem source) gave

    ws : in_words b ≡ state_after acts (in_words start) calls
    ws = run_words _ in_words acts (mixed_call_lem source) gave

    -- what the claims over words count
    counted : numbers_of (whole mixed_event) acts (in_words start) calls ≡ numbers
    counted = whole_numbers mixed_event acts (in_words start) calls ∙ sym ns

    demand : Mixed212 acts (in_words start) (recipe bytes route) source (collect_call bytes route source) calls
    demand =
        subst (λ (s : State). Mixed212 acts s (recipe bytes route) source (collect_call bytes route source) calls) (sym (after_of fresh))
        (timed_demands.mixed_runs bytes route source (in_words a) small (sym (number_of fresh)) calls)

    marks : StatusTells (recipe bytes route) (in_words b) (map mixed_event calls) numbers
    marks = rw (ws, sym (whole_events mixed_event calls), sym counted) (demand.words.marks calls)

    next_number : (x : Mixed) (n : ℕ) (c : Areas) → MixedGave bytes route source b x n c
        → n ≡ (acts (state_after acts (in_words start) calls) x).number
    next_number x n c h = number_of (mixed_call_lem source b x n c h) ∙ ap (λ (s : State). (acts s x).number) ws

    collect_is : (old grid : List ℕ) (n : ℕ) → CollectGave bytes route source b old n grid
        → answer n grid ≡ collect_call bytes route source (state_after acts (in_words start) calls) old
    collect_is old grid n h = h ∙ ap (λ (s : State). collect_call bytes route source s old) ws

    mixed_run : MixedRun bytes route source start calls numbers b
    mixed_run =
        record {
          numbers_are = ns;
          words_are = ws;
          demand = demand;
          marks = marks;
          goes_on = λ h. let r = demand.goes_on (rw (sym counted) at h) in (r.0, λ n c g. next_number (inl r.0) n c g ∙ r.1);
          then_fewer = λ x c h. rw (sym counted) (demand.demand.then_fewer x refl (sym (next_number x 0 c h)));
          collects = λ old grid n l h. (
            (λ z. rw (sym counted) (demand.demand.collecting.then_all old l (sym (number_of (collect_is old grid n h)) ∙ z))),
            (λ t. number_of (collect_is old grid n h) ∙ demand.demand.collecting.can_collect (rw (sym counted) at t) old l),
          );
          grid = λ old grid h.
              let z = sym (number_of (collect_is old grid 0 h)) in
              let l = one.collect_length bytes route source _ old z in
              after_of (collect_is old grid 0 h) ∙ demand.demand.collecting.grid (demand.demand.collecting.then_all old l z) old l;
        }

  -- ---- two tenants
  module _ (sources : Sources) (a start b : SharingAreas) (calls : List MixedCall) (numbers : List ℕ)
      (fresh : FreshBothGave bytes route sources a 0 start) (gave : Gave (MixedCallGave bytes route sources) start calls numbers b) where
    abbrev sharing_acts : Sharing → MixedCall → Answered Sharing
    sharing_acts = mixed_sharing_calls bytes route sources

    sharing_ns : numbers ≡ answers_to sharing_acts (sharing_words start) calls
    sharing_ns = run_numbers _ sharing_words sharing_acts (mixed_sharing_call sources) gave

    sharing_ws : sharing_words b ≡ state_after sharing_acts (sharing_words start) calls
    sharing_ws = run_words _ sharing_words sharing_acts (mixed_sharing_call sources) gave

    own_ws : (o : ℕ) → in_words (own_areas b o) ≡ own_of (state_after sharing_acts (sharing_words start) calls) o
    own_ws o = tenant_words o b.first b.second ∙ ap (λ (r : Sharing). own_of r o) sharing_ws

    module _ (small : Bytes bytes) where
      sharing_demand : Mixed212For sharing_acts (sharing_words start) (recipe bytes route) sources (sharing_collects bytes route sources) calls
      sharing_demand =
          subst (λ (r : Sharing). Mixed212For sharing_acts r (recipe bytes route) sources (sharing_collects bytes route sources) calls) (sym (after_of fresh))
          (timed_demands.tenant_mixed_runs bytes route sources (sharing_words a) small (sym (number_of fresh)) calls)

      sharing_next_number : (x : MixedCall) (n : ℕ) (c : SharingAreas) → MixedCallGave bytes route sources b x n c
          → n ≡ (sharing_acts (state_after sharing_acts (sharing_words start) calls) x).number
      sharing_next_number x n c h = number_of (mixed_sharing_call sources b x n c h) ∙ ap (λ (r : Sharing). (sharing_acts r x).number) sharing_ws

      sharing_collect_is : (o : ℕ) (old grid : List ℕ) (n : ℕ) → CollectGaveFor bytes route sources b o old n grid
          → answer n grid ≡ sharing_collects bytes route sources (state_after sharing_acts (sharing_words start) calls) o old
      sharing_collect_is o old grid n h =
          collect_words bytes route sources b o old grid n h ∙ ap (λ (r : Sharing). sharing_collects bytes route sources r o old) sharing_ws

      mixed_sharing_run : MixedSharingRun bytes route sources start calls numbers b
      mixed_sharing_run =
          record {
            numbers_are = sharing_ns;
            words_are = sharing_ws;
            demand = sharing_demand;
            marks = λ o low. rw (own_ws o, sharing_ns) ((sharing_demand.words.each o low).marks calls);
            goes_on = λ h.
                let r = sharing_demand.goes_on.goes_on (rw sharing_ns at h) in (r.0, λ n c g. sharing_next_number r.0 n c g ∙ r.1);
            then_fewer = λ x c h. rw sharing_ns (sharing_demand.demand.then_fewer x (sym (sharing_next_number x 0 c h)));
            collects = λ o low old grid n l h. (
              (λ z. rw sharing_ns ((sharing_demand.demand.each o low).collecting.then_all old l (sym (number_of (sharing_collect_is o old grid n h)) ∙ z))),
              (λ t. number_of (sharing_collect_is o old grid n h) ∙ (sharing_demand.demand.each o low).collecting.can_collect (rw sharing_ns at t) old l),
            );
            grid = λ o low old grid h.
                let z = sym (number_of (sharing_collect_is o old grid 0 h)) in
                let l = collect_length bytes route _ o _ _ old (sym (number_of h)) in
                let e = sharing_demand.demand.each o low in
                after_of (sharing_collect_is o old grid 0 h) ∙ e.collecting.grid (e.collecting.then_all old l z) old l;
          }

  -- ---- two runs apart
  module _ (small : Bytes bytes) (sources sources' : Sources) (a start b a' start' b' : SharingAreas) (calls calls' : List MixedCall)
      (ks ks' : List ℕ)
      (fresh : FreshBothGave bytes route sources a 0 start) (gave : Gave (MixedCallGave bytes route sources) start calls ks b)
      (fresh' : FreshBothGave bytes route sources' a' 0 start') (gave' : Gave (MixedCallGave bytes route sources') start' calls' ks' b')
      (o : ℕ) (low : o ≤ 1) (same_source : source_for sources' o ≡ source_for sources o) where
    isolated : Alone208 mixed_call (mixed_sharing_calls bytes route sources) mixed_call (mixed_sharing_calls bytes route sources')
        (engine.calls bytes route (source_for sources o)) (recipe bytes route) o
    isolated =
        timed_demands.alone bytes route sources sources' (sharing_words a) (sharing_words a') small (sym (number_of fresh)) (sym (number_of fresh')) o low
        same_source

    started : sharing_words start ≡ fresh_sharing (recipe bytes route)
    started = after_of fresh ∙ fresh_is bytes route sources (sharing_words a) (sym (number_of fresh))

    started' : sharing_words start' ≡ fresh_sharing (recipe bytes route)
    started' = after_of fresh' ∙ fresh_is bytes route sources' (sharing_words a') (sym (number_of fresh'))

    apart : events_by calls o ≡ events_by calls' o → numbers_by calls ks o ≡ numbers_by calls' ks' o → own_areas b o ≡ own_areas b' o
    apart e n =
        areas_fixed (own_areas b o) (own_areas b' o)
        (rw started at (own_ws sources a start b calls ks fresh gave o)
        ∙ isolated.same_words.same_words calls calls' e
        (rw (sharing_ns sources a start b calls ks fresh gave, started, sharing_ns sources' a' start' b' calls' ks' fresh' gave', started') at n)
        ∙ sym (rw started' at (own_ws sources' a' start' b' calls' ks' fresh' gave' o)))

pub over_mixed : (bytes : List ℕ) (route : ℕ) → OverMixed bytes route
over_mixed bytes route =
    record {
      one = λ small source a start b calls numbers fresh gave. mixed_run bytes route small source a start b calls numbers fresh gave;
      two = λ small sources a start b calls numbers fresh gave. mixed_sharing_run bytes route sources a start b calls numbers fresh gave small;
      apart = λ small sources sources' a start b a' start' b' calls calls' ks ks' f g f' g' o low same_source.
          apart bytes route small sources sources' a start b a' start' b' calls calls' ks ks' f g f' g' o low same_source;
      swaps_one = λ small source a start fresh.
          demand214_gave mixed_event (MixedGave bytes route source) (mixed_calls bytes route source) (mixed_call_lem bytes route source) start
          (subst (Mixed214 (mixed_calls bytes route source)) (sym (after_of fresh))
          (mixed_swaps.one bytes route source (in_words a) small (sym (number_of fresh))));
      swaps_two = λ small sources a start fresh.
          demand214_for_gave mixed_call (recipe bytes route) (MixedCallGave bytes route sources) (mixed_sharing_calls bytes route sources)
          (mixed_sharing_call bytes route sources) start
          (subst (Mixed214For (recipe bytes route) (mixed_sharing_calls bytes route sources)) (sym (after_of fresh))
          (mixed_swaps.two bytes route sources (sharing_words a) small (sym (number_of fresh))));
    }
