-- Read this. Lists that mix plain turns and turns with hours, for the calls as exported, board records as structs: of one tenant, and of both on the same
-- processors.
-- Renders document 01, "Runs", and requests W-208, W-212 and W-214 for such lists; lists of one kind are among them. What a message's mark tells of the
-- steps before it is said here of the areas that the calls left.
use Rattle.std.specs.Prelude.{ℕ, ◌≤◌, ◌<◌, ◌≡◌, ◌⊎◌, ◌↔◌, List, map, length}
use Rattle.std.proofs.Common.{inl, inr}
use Rattle.base.specs.Lists.{Bytes}
use Rattle.machine.specs.Machine as machine
use Rattle.machine.specs.Machine.{State}
use Rattle.machine.specs.Runs.{Event, last, answers, total, steps_in}
use Rattle.machine.specs.StatusTells.{StatusTells}
use Rattle.machine.specs.AnyCalls.{events_in, numbers_in}
use Rattle.tenants.specs.Tenants.{Sharing, Sources, source_for, Call}
use Rattle.tenants.specs.AnyCalls.{tenant_view}
use Rattle.calendar.specs.AnyCalls.{Mixed, mixed_event, MixedCall, mixed_call, Mixed212, Mixed212For}
use Rattle.swaps.specs.Mixed.{Mixed214, Mixed214For}
use Rattle.engine.specs.Calls.{recipe, fresh_call, collect_call}
use Rattle.sharing.specs.Calls.{fresh_sharing_call, sharing_collects}
use Rattle.calendar_calls.specs.Demands.{mixed_calls, mixed_sharing_calls}
use Rattle.calls.specs.Gave.{Areas, in_words, FreshGave, EventGave, CollectGave, TimedGave, SharingAreas, sharing_words, FreshBothGave}
use Rattle.guarantees.specs.OverRecords.{Gave}
use Rattle.guarantees.specs.OverSharing.{own_areas, CallGave, CollectGaveFor}
use Rattle.guarantees.specs.OverCalendar.{TimedCallGave, Gives}
use Rattle.guarantees.specs.OverRecords214.{Demand214Gave, Demand214ForGave}

-- ---- W-214 over words

pub record MixedSwaps : Type 0 where
  pub one : (bytes : List ℕ) (route : ℕ) (source : List ℕ) (s : State) → Bytes bytes → (fresh_call bytes route source s).number ≡ 0
      → Mixed214 (mixed_calls bytes route source) (fresh_call bytes route source s).after
  pub two : (bytes : List ℕ) (route : ℕ) (sources : Sources) (r : Sharing) → Bytes bytes → (fresh_sharing_call bytes route sources r).number ≡ 0
      → Mixed214For (recipe bytes route) (mixed_sharing_calls bytes route sources) (fresh_sharing_call bytes route sources r).after

-- ---- the contracts: a plain event's, or one's with hours

module _ (bytes : List ℕ) (route : ℕ) where
  abbrev pub MixedGave : List ℕ → Areas → Mixed → ℕ → Areas → Type 0
  MixedGave source a (inl e) n b = EventGave bytes route source a e n b
  MixedGave source a (inr x) n b = TimedGave bytes route source a x n b

  abbrev pub MixedCallGave : Sources → SharingAreas → MixedCall → ℕ → SharingAreas → Type 0
  MixedCallGave sources a (inl c) n b = CallGave bytes route sources a c n b
  MixedCallGave sources a (inr c) n b = TimedCallGave bytes route sources a c n b

-- ---- events from the areas `start` that a fresh start left, with their numbers; `b` are the areas after them

module _ (bytes : List ℕ) (route : ℕ) (source : List ℕ) (start : Areas) (calls : List Mixed) (numbers : List ℕ) (b : Areas) where
  pub record MixedRun : Type 0 where
    -- number by number and word by word the run over words, which has what demands 2 and 3 ask
    pub numbers_are : numbers ≡ answers (mixed_calls bytes route source) (in_words start) calls
    pub words_are : in_words b ≡ last (mixed_calls bytes route source) (in_words start) calls
    pub demand : Mixed212 (mixed_calls bytes route source) (in_words start) (recipe bytes route) source (collect_call bytes route source) calls
    -- the marks left tell whether each message was sent, delivered and taken
    pub marks : StatusTells (recipe bytes route) (in_words b) (map mixed_event calls) numbers
    -- what it says of a further call: while the steps are fewer, and only then, some plain event gives 0
    pub goes_on : steps_in numbers < total (recipe bytes route) → (e : Event) × Gives (EventGave bytes route source) b e
    pub then_fewer : (x : Mixed) (c : Areas) → MixedGave bytes route source b x 0 c → steps_in numbers < total (recipe bytes route)
    -- collecting gives 0 exactly when they are that many, and then the sweep
    pub collects : (old grid : List ℕ) (n : ℕ) → length old ≡ (recipe bytes route).cells → CollectGave bytes route source b old n grid
        → (n ≡ 0) ↔ (steps_in numbers ≡ total (recipe bytes route))
    pub grid : (old grid : List ℕ) → CollectGave bytes route source b old 0 grid → grid ≡ machine.sweep (recipe bytes route) source

-- ---- calls of both tenants in any order: tenant o's events, the numbers that they got, and how many of them were steps

abbrev pub events_by : List MixedCall → ℕ → List Event
events_by calls o = events_in (tenant_view mixed_call o) calls

abbrev pub numbers_by : List MixedCall → List ℕ → ℕ → List ℕ
numbers_by calls numbers o = numbers_in (tenant_view mixed_call o) calls numbers

abbrev pub steps_by : List MixedCall → List ℕ → ℕ → ℕ
steps_by calls numbers o = steps_in (numbers_by calls numbers o)

module _ (bytes : List ℕ) (route : ℕ) (sources : Sources) (start : SharingAreas) (calls : List MixedCall) (numbers : List ℕ) (b : SharingAreas) where
  pub record MixedSharingRun : Type 0 where
    pub numbers_are : numbers ≡ answers (mixed_sharing_calls bytes route sources) (sharing_words start) calls
    pub words_are : sharing_words b ≡ last (mixed_sharing_calls bytes route sources) (sharing_words start) calls
    pub demand : Mixed212For (mixed_sharing_calls bytes route sources) (sharing_words start) (recipe bytes route) sources (sharing_collects bytes route sources)
        calls
    pub marks : (o : ℕ) → o ≤ 1 → StatusTells (recipe bytes route) (in_words (own_areas b o)) (events_by calls o) (numbers_by calls numbers o)
    pub goes_on : (steps_by calls numbers 0 < total (recipe bytes route)) ⊎ (steps_by calls numbers 1 < total (recipe bytes route))
        → (x : MixedCall) × Gives (MixedCallGave bytes route sources) b x
    pub then_fewer : (x : MixedCall) (c : SharingAreas) → MixedCallGave bytes route sources b x 0 c
        → (steps_by calls numbers 0 < total (recipe bytes route)) ⊎ (steps_by calls numbers 1 < total (recipe bytes route))
    pub collects : (o : ℕ) → o ≤ 1 → (old grid : List ℕ) (n : ℕ) → length old ≡ (recipe bytes route).cells
        → CollectGaveFor bytes route sources b o old n grid → (n ≡ 0) ↔ (steps_by calls numbers o ≡ total (recipe bytes route))
    pub grid : (o : ℕ) → o ≤ 1 → (old grid : List ℕ) → CollectGaveFor bytes route sources b o old 0 grid
        → grid ≡ machine.sweep (recipe bytes route) (source_for sources o)

pub record OverMixed (bytes : List ℕ) (route : ℕ) : Type 0 where
  pub one : Bytes bytes → (source : List ℕ) (a start b : Areas) (calls : List Mixed) (numbers : List ℕ)
      → FreshGave bytes route source a 0 start → Gave (MixedGave bytes route source) start calls numbers b
      → MixedRun bytes route source start calls numbers b
  pub two : Bytes bytes → (sources : Sources) (a start b : SharingAreas) (calls : List MixedCall) (numbers : List ℕ)
      → FreshBothGave bytes route sources a 0 start → Gave (MixedCallGave bytes route sources) start calls numbers b
      → MixedSharingRun bytes route sources start calls numbers b
  -- two runs that agree on tenant o's source, its events and the numbers they got leave the same words and the very records in its own areas
  pub apart : Bytes bytes → (sources sources' : Sources) (a start b a' start' b' : SharingAreas) (calls calls' : List MixedCall) (ns ns' : List ℕ)
      → FreshBothGave bytes route sources a 0 start → Gave (MixedCallGave bytes route sources) start calls ns b
      → FreshBothGave bytes route sources' a' 0 start' → Gave (MixedCallGave bytes route sources') start' calls' ns' b'
      → (o : ℕ) → o ≤ 1 → source_for sources' o ≡ source_for sources o
      → events_by calls o ≡ events_by calls' o → numbers_by calls ns o ≡ numbers_by calls' ns' o
      → own_areas b o ≡ own_areas b' o
  -- two steps, either way round (W-214)
  pub swaps_one : Bytes bytes → (source : List ℕ) (a start : Areas) → FreshGave bytes route source a 0 start
      → Demand214Gave mixed_event (MixedGave bytes route source) start
  pub swaps_two : Bytes bytes → (sources : Sources) (a start : SharingAreas) → FreshBothGave bytes route sources a 0 start
      → Demand214ForGave mixed_call (recipe bytes route) (MixedCallGave bytes route sources) start
