-- Read this.
-- Request W-212 for the calls as exported, board records as structs, by the relations that are their contracts (`Gave`); runs with hours, of one
-- tenant and of both on the same processors. Document 01, "Numbers a call gives", "Runs"; W-212.
use Rattle.std.specs.Prelude.{ℕ, ◌≤◌, ◌<◌, ◌≡◌, ◌⊎◌, ◌↔◌, true, List, map, length}
use Rattle.base.specs.Lists.{Bytes}
use Rattle.machine.specs.Machine as machine
use Rattle.machine.specs.Machine.{carry_out, next_action, tiles_left}
use Rattle.machine.specs.Runs.{last, answers, total, steps_in}
use Rattle.tenants.specs.Tenants.{carry_out_for, Sources, source_for}
use Rattle.tenants.specs.Demand208.{events_of, answers_of}
use Rattle.calendar.specs.Windows.{week, open_at, Moment, moment_of, Timed, turn_at, mail_of, TimedCall, call_of, until_open}
use Rattle.calendar.specs.Demands212.{TellsOpening, Faultless, OpensSometime, turn_at_by, mail_by, Demand212, Demand212For}
use Rattle.records.specs.declared.Progress.{Progress}
use Rattle.records.specs.Records.{flat_words}
use Rattle.engine.specs.Calls.{recipe, collect_call}
use Rattle.sharing.specs.Calls.{sharing_collects}
use Rattle.calendar_calls.specs.Calls.{turn_call_lines_at, turn_call_lines_at_for, opens_lines, calls_at, sharing_calls_at}
use Rattle.calls.specs.declared.hour.NextOpening.{NextOpening}
use Rattle.calls.specs.Opens.{tells, opening_told}
use Rattle.calls.specs.Tells.{Tells}
use Rattle.calls.specs.Gave.{Areas, in_words, LentAreas, lent_words, SharingAreas, sharing_words}
use Rattle.calls.specs.Gave.{FreshGave, CollectGave, FreshBothGave, TimedGave, TenantTimedGave, OpensGave}
use Rattle.guarantees.specs.OverRecords.{Gave, FixedAreas}
use Rattle.guarantees.specs.OverSharing.{own_areas, other_areas, lent_areas, CollectGaveFor, FixedLent}

module _ (bytes : List ℕ) (route : ℕ) where
  -- a call on the sharing: the tenant that it names is lent its own areas and the shared words, and the other's areas stay as they were
  pub record TimedCallGave (sources : Sources) (a : SharingAreas) (c : TimedCall) (n : ℕ) (b : SharingAreas) : Type 0 where
    pub gave : TenantTimedGave bytes route (source_for sources c.tenant) c.tenant (other_areas a c.tenant).progress
        (lent_areas a c.tenant) c.event n (lent_areas b c.tenant)
    pub others : other_areas b c.tenant ≡ other_areas a c.tenant

-- ---- demand 1

pub record FixedHours (bytes : List ℕ) (route : ℕ) : Type 0 where
  -- a refusal leaves the very records
  pub turn : (source : List ℕ) (a b : Areas) (h : Moment) (p n : ℕ) → TimedGave bytes route source a (turn_at h p) n b
      → FixedAreas (turn_call_lines_at bytes route source h (in_words a) p)
      (carry_out (recipe bytes route) source (in_words a) p (next_action (recipe bytes route) (in_words a) p)) a n b
  pub tenant_turn : (source : List ℕ) (o : ℕ) (theirs : List Progress) (a b : LentAreas) (h : Moment) (p n : ℕ)
      → TenantTimedGave bytes route source o theirs a (turn_at h p) n b
      → FixedLent (turn_call_lines_at_for bytes route source o h (lent_words a) (flat_words theirs) p)
      (carry_out_for (recipe bytes route) source o (lent_words a) p (next_action (recipe bytes route) (lent_words a).own p)) a n b
  pub opens : (h : Moment) (b : ℕ) (told : NextOpening) → OpensGave bytes h b told
      → Tells (λ o. o.number) (opens_lines bytes h b) (opening_told (until_open h.calendar h.minute b)) (λ n. tells n 0 0) told
  -- what is told: open then and at no minute before; never exactly if there is no such minute
  pub tells_opening : (h : Moment) (b : ℕ) (told : NextOpening) → OpensGave bytes h b told → told.number ≡ 0
      → (told ≡ opening_told (until_open h.calendar h.minute b)) × TellsOpening (until_open h.calendar h.minute b) h.calendar h.minute b
  -- the contracts can be kept, and in one way only
  pub can_event : (source : List ℕ) (a : Areas) (x : Timed) → (n : ℕ) × ((b : Areas) × TimedGave bytes route source a x n b)
  pub can_call : (sources : Sources) (a : SharingAreas) (c : TimedCall)
      → (n : ℕ) × ((b : SharingAreas) × TimedCallGave bytes route sources a c n b)
  pub one_event : (source : List ℕ) (a b c : Areas) (x : Timed) (n k : ℕ)
      → TimedGave bytes route source a x n b → TimedGave bytes route source a x k c → (n ≡ k) × (b ≡ c)
  pub one_call : (sources : Sources) (a b d : SharingAreas) (c : TimedCall) (n k : ℕ)
      → TimedCallGave bytes route sources a c n b → TimedCallGave bytes route sources a c k d → (n ≡ k) × (b ≡ d)

-- ---- demand 3: events from the areas `start` that a fresh start left, with their numbers; `b` are the areas after them

-- the call e, lent the areas b, gives 0
abbrev pub Gives : {A E : Type 0} → (A → E → ℕ → A → Type 0) → A → E → Type 0
Gives {A} Step b e = (n : ℕ) (c : A) → Step b e n c → n ≡ 0

module _ (bytes : List ℕ) (route : ℕ) (source : List ℕ) (start : Areas) (events : List Timed) (numbers : List ℕ) (b : Areas) where
  -- with this table some delivery, or some turn at a minute at which its processor is open, gives 0
  pub data NextStep (table : List ℕ) : Type 0 where
    by_mail : (m : ℕ) → Gives (TimedGave bytes route source) b (mail_of m) → NextStep table
    by_turn : (p minute : ℕ) → minute < week → open_at table p minute ≡ true
        → Gives (TimedGave bytes route source) b (turn_at (moment_of table minute) p) → NextStep table

  -- some delivery gives 0, or the turn of a processor with tiles left does at every minute at which it is open
  pub data NextOpen (table : List ℕ) : Type 0 where
    by_mail : (m : ℕ) → Gives (TimedGave bytes route source) b (mail_of m) → NextOpen table
    when_open : (p : ℕ) → p < (recipe bytes route).processors → tiles_left (recipe bytes route) (in_words b) p ≡ true
        → ((minute : ℕ) → minute < week → open_at table p minute ≡ true
        → Gives (TimedGave bytes route source) b (turn_at (moment_of table minute) p))
        → NextOpen table

  pub record TimedRun : Type 0 where
    -- number by number and word by word the run over words, which has what the request asks
    pub numbers_are : numbers ≡ answers (calls_at bytes route source) (in_words start) events
    pub words_are : in_words b ≡ last (calls_at bytes route source) (in_words start) events
    pub demand : Demand212 (calls_at bytes route source) (in_words start) events (recipe bytes route) source (collect_call bytes route source)
    -- what it says of a further call: while the steps are fewer, and only then, some event gives 0
    pub goes_on : (table : List ℕ) → Faultless (recipe bytes route) table
        → ((p : ℕ) → p < (recipe bytes route).processors → tiles_left (recipe bytes route) (in_words b) p ≡ true → OpensSometime table p)
        → steps_in numbers < total (recipe bytes route) → NextStep table
    pub then_fewer : (x : Timed) (c : Areas) → TimedGave bytes route source b x 0 c → steps_in numbers < total (recipe bytes route)
    pub only_hours : (table : List ℕ) → Faultless (recipe bytes route) table → steps_in numbers < total (recipe bytes route) → NextOpen table
    -- collecting, which has no hours, gives 0 exactly when they are that many, and then the sweep
    pub collects : (old grid : List ℕ) (n : ℕ) → length old ≡ (recipe bytes route).cells → CollectGave bytes route source b old n grid
        → (n ≡ 0) ↔ (steps_in numbers ≡ total (recipe bytes route))
    pub grid : (old grid : List ℕ) → CollectGave bytes route source b old 0 grid → grid ≡ machine.sweep (recipe bytes route) source

-- calls of both tenants in any order, each turn with hours of its own
module _ (bytes : List ℕ) (route : ℕ) (sources : Sources) (start : SharingAreas) (calls : List TimedCall) (numbers : List ℕ) (b : SharingAreas) where
  -- how many steps of tenant o there were
  abbrev pub steps_at_of : ℕ → ℕ
  steps_at_of o = steps_in (answers_of o (map call_of calls) numbers)

  pub data NextCall (table : List ℕ) : Type 0 where
    by_mail : (o m : ℕ) → Gives (TimedCallGave bytes route sources) b (mail_by o m) → NextCall table
    by_turn : (o p minute : ℕ) → minute < week → open_at table p minute ≡ true
        → Gives (TimedCallGave bytes route sources) b (turn_at_by o (moment_of table minute) p) → NextCall table

  pub data NextOpenFor (table : List ℕ) : Type 0 where
    by_mail : (o m : ℕ) → Gives (TimedCallGave bytes route sources) b (mail_by o m) → NextOpenFor table
    when_open : (o p : ℕ) → o ≤ 1 → p < (recipe bytes route).processors
        → tiles_left (recipe bytes route) (in_words (own_areas b o)) p ≡ true
        → ((minute : ℕ) → minute < week → open_at table p minute ≡ true
        → Gives (TimedCallGave bytes route sources) b (turn_at_by o (moment_of table minute) p))
        → NextOpenFor table

  pub record TimedSharingRun : Type 0 where
    pub numbers_are : numbers ≡ answers (sharing_calls_at bytes route sources) (sharing_words start) calls
    pub words_are : sharing_words b ≡ last (sharing_calls_at bytes route sources) (sharing_words start) calls
    pub demand : Demand212For (sharing_calls_at bytes route sources) (sharing_words start) calls (recipe bytes route) sources
        (sharing_collects bytes route sources)
    pub goes_on : (table : List ℕ) → Faultless (recipe bytes route) table
        → ((o p : ℕ) → o ≤ 1 → p < (recipe bytes route).processors → tiles_left (recipe bytes route) (in_words (own_areas b o)) p ≡ true
        → OpensSometime table p)
        → (steps_at_of 0 < total (recipe bytes route)) ⊎ (steps_at_of 1 < total (recipe bytes route)) → NextCall table
    pub then_fewer : (c : TimedCall) (d : SharingAreas) → TimedCallGave bytes route sources b c 0 d
        → (steps_at_of 0 < total (recipe bytes route)) ⊎ (steps_at_of 1 < total (recipe bytes route))
    pub only_hours : (table : List ℕ) → Faultless (recipe bytes route) table
        → (steps_at_of 0 < total (recipe bytes route)) ⊎ (steps_at_of 1 < total (recipe bytes route)) → NextOpenFor table
    pub collects : (o : ℕ) → o ≤ 1 → (old grid : List ℕ) (n : ℕ) → length old ≡ (recipe bytes route).cells
        → CollectGaveFor bytes route sources b o old n grid → (n ≡ 0) ↔ (steps_at_of o ≡ total (recipe bytes route))
    pub grid : (o : ℕ) → o ≤ 1 → (old grid : List ℕ) → CollectGaveFor bytes route sources b o old 0 grid
        → grid ≡ machine.sweep (recipe bytes route) (source_for sources o)

pub record OverCalendar (bytes : List ℕ) (route : ℕ) : Type 0 where
  pub one : FixedHours bytes route
  pub three : Bytes bytes → (source : List ℕ) (a start b : Areas) (events : List Timed) (numbers : List ℕ)
      → FreshGave bytes route source a 0 start → Gave (TimedGave bytes route source) start events numbers b
      → TimedRun bytes route source start events numbers b
  pub tenant_three : Bytes bytes → (sources : Sources) (a start b : SharingAreas) (calls : List TimedCall) (numbers : List ℕ)
      → FreshBothGave bytes route sources a 0 start → Gave (TimedCallGave bytes route sources) start calls numbers b
      → TimedSharingRun bytes route sources start calls numbers b
  -- two runs that agree on tenant o's source, its events, at whatever hours, and the numbers they got leave the same words and the very
  -- records in its own areas
  pub apart : Bytes bytes → (sources sources' : Sources) (a start b a' start' b' : SharingAreas) (calls calls' : List TimedCall) (ns ns' : List ℕ)
      → FreshBothGave bytes route sources a 0 start → Gave (TimedCallGave bytes route sources) start calls ns b
      → FreshBothGave bytes route sources' a' 0 start' → Gave (TimedCallGave bytes route sources') start' calls' ns' b'
      → (o : ℕ) → o ≤ 1 → source_for sources o ≡ source_for sources' o
      → events_of o (map call_of calls) ≡ events_of o (map call_of calls') → answers_of o (map call_of calls) ns ≡ answers_of o (map call_of calls') ns'
      → own_areas b o ≡ own_areas b' o
