-- Read this.
-- Runs with hours: demand 3 as request W-212 has it, for one tenant and for two; and what the sharing tells of opening.
-- proofs/ proves the claims for every sound plan, all sources and every list of events.
use Rattle.std.specs.Prelude.{ℕ, ◌+◌, ◌%◌, ◌≤◌, ◌<◌, ◌≡◌, ◌⊎◌, true, false, List, ◌∷◌, ◌++◌, map, length, None, Option, Some}
use Rattle.machine.specs.Plan.{Plan}
use Rattle.machine.specs.Machine.{State, Answered, tiles_left}
use Rattle.machine.specs.Runs.{Event, total, turns_of, state_after, answers_to, last, answers, steps, steps_in, Once, Collects, CarriedOut}
use Rattle.tenants.specs.Tenants.{Sharing, Sources, source_for, own_of}
use Rattle.tenants.specs.Demand208.{events_of, answers_of, CarriedOutFor}
use Rattle.calendar.specs.Windows.{week, table_words, faulty_window, open_at, moment_of, Moment, Timed, turn_at, mail_of, event_of, TimedCall, call_of}

-- ---- minutes until a processor next opens

-- what was told at a minute of the week about processor b
pub record TellsOpening (told : Option ℕ) (calendar : List ℕ) (minute b : ℕ) : Type 0 where
  -- a number told: open then, past the end of the week by the same table, and at no minute before
  pub then_open : (n : ℕ) → told ≡ Some n → open_at calendar b ((minute + n) % week) ≡ true
  pub not_before : (n : ℕ) → told ≡ Some n → (i : ℕ) → i < n → open_at calendar b ((minute + i) % week) ≡ false
  pub in_a_week : (n : ℕ) → told ≡ Some n → n < week
  -- 0 while it is open, and only then
  pub open_now : minute < week → open_at calendar b minute ≡ true → told ≡ Some 0
  pub only_now : minute < week → told ≡ Some 0 → open_at calendar b minute ≡ true
  -- never, exactly if it is open at no minute of the week
  pub never_open : told ≡ None → (i : ℕ) → i < week → open_at calendar b i ≡ false
  pub if_never : ((i : ℕ) → i < week → open_at calendar b i ≡ false) → told ≡ None

-- ---- runs: each event is given hours of its own

-- the table lent has its length and no faulty window, for any processor
pub record Faultless (p : Plan) (calendar : List ℕ) : Type 0 where
  pub long : length calendar ≡ table_words p
  pub windows : faulty_window p calendar ≡ false

abbrev pub OpensSometime : List ℕ → ℕ → Type 0
OpensSometime calendar b = (minute : ℕ) × (minute < week) × (open_at calendar b minute ≡ true)

-- ---- one tenant

-- the claim about a list of events from `start`, by the answers that `acts` gives
module _ (acts : State → Timed → Answered State) (start : State) (events : List Timed) where
  -- the events without their hours, which the counts are of
  abbrev pub events_at : List Event
  events_at = map event_of events

  -- with this table some delivery, or some turn at a minute at which its processor is open, would give 0
  pub data SomeStep (calendar : List ℕ) : Type 0 where
    by_mail : (m : ℕ) → (acts (last acts start events) (mail_of m)).number ≡ 0 → SomeStep calendar
    by_turn : (b minute : ℕ) → minute < week → open_at calendar b minute ≡ true → (acts (last acts start events) (turn_at (moment_of calendar minute) b)).number ≡ 0
        → SomeStep calendar

  -- some delivery would give 0; or there is a processor with tiles left whose turn would give 0 at every minute at which it is open
  pub data OnlyHours (p : Plan) (calendar : List ℕ) : Type 0 where
    by_mail : (m : ℕ) → (acts (last acts start events) (mail_of m)).number ≡ 0 → OnlyHours p calendar
    when_open : (b : ℕ) → b < p.processors → tiles_left p (last acts start events) b ≡ true
        → ((minute : ℕ) → minute < week → open_at calendar b minute ≡ true → (acts (last acts start events) (turn_at (moment_of calendar minute) b)).number ≡ 0)
        → OnlyHours p calendar

  pub record Demand212 (p : Plan) (source : List ℕ) (collects : State → List ℕ → Answered (List ℕ)) : Type 0 where
    pub once : Once p events_at (answers acts start events)
    -- progress: if every processor with tiles left is open at some minute, some event would give 0 exactly when the steps are fewer
    pub goes_on : (calendar : List ℕ) → Faultless p calendar
        → ((b : ℕ) → b < p.processors → tiles_left p (last acts start events) b ≡ true → OpensSometime calendar b)
        → steps acts start events < total p → SomeStep calendar
    pub then_fewer : (e : Timed) → (acts (last acts start events) e).number ≡ 0 → steps acts start events < total p
    -- and with no such premise nothing but the hours holds it up
    pub only_hours : (calendar : List ℕ) → Faultless p calendar → steps acts start events < total p → OnlyHours p calendar
    -- the collected grid equals the sweep, whatever the hours
    pub collecting : Collects p source (steps acts start events ≡ total p) (collects (last acts start events))
    -- each turn that gave 0 carried out, by the machine's rules, the action that the program names, whatever its minute
    pub carried_out : (before after : List Timed) (h : Moment) (b : ℕ) → events ≡ before ++ (turn_at h b ∷ after)
        → (acts (state_after acts start before) (turn_at h b)).number ≡ 0
        → CarriedOut p source (state_after acts start before) (acts (state_after acts start before) (turn_at h b)).after b
        (turns_of b (map event_of before) (answers_to acts start before))

-- ---- two tenants

abbrev pub turn_at_by : ℕ → Moment → ℕ → TimedCall
turn_at_by o h b = record { tenant = o; event = turn_at h b }

abbrev pub mail_by : ℕ → ℕ → TimedCall
mail_by o m = record { tenant = o; event = mail_of m }

module _ (acts : Sharing → TimedCall → Answered Sharing) (start : Sharing) (calls : List TimedCall) where
  -- tenant o's events without their hours, and the numbers that they got
  abbrev pub events_for : ℕ → List Event
  events_for o = events_of o (map call_of calls)

  abbrev pub answers_for : ℕ → List ℕ
  answers_for o = answers_of o (map call_of calls) (answers acts start calls)

  -- a step of tenant o is a call of it that gave 0
  abbrev pub steps_for : ℕ → ℕ
  steps_for o = steps_in (answers_for o)

  -- with this table some delivery of one of the two, or some turn at a minute at which its processor is open, would give 0
  pub data SomeCall (calendar : List ℕ) : Type 0 where
    by_mail : (o m : ℕ) → (acts (last acts start calls) (mail_by o m)).number ≡ 0 → SomeCall calendar
    by_turn : (o b minute : ℕ) → minute < week → open_at calendar b minute ≡ true → (acts (last acts start calls)
        (turn_at_by o (moment_of calendar minute) b)).number ≡ 0
        → SomeCall calendar

  pub data OnlyHoursFor (p : Plan) (calendar : List ℕ) : Type 0 where
    by_mail : (o m : ℕ) → (acts (last acts start calls) (mail_by o m)).number ≡ 0 → OnlyHoursFor p calendar
    when_open : (o b : ℕ) → o ≤ 1 → b < p.processors → tiles_left p (own_of (last acts start calls) o) b ≡ true
        → ((minute : ℕ) → minute < week → open_at calendar b minute ≡ true → (acts (last acts start calls) (turn_at_by o (moment_of calendar minute) b)).number ≡ 0)
        → OnlyHoursFor p calendar

  -- one tenant's part
  pub record TenantDemand212 (p : Plan) (o : ℕ) (source : List ℕ) (collects : Sharing → ℕ → List ℕ → Answered (List ℕ)) : Type 0 where
    pub once : Once p (events_for o) (answers_for o)
    pub collecting : Collects p source (steps_for o ≡ total p) (collects (last acts start calls) o)
    pub carried_out : (before after : List TimedCall) (h : Moment) (b : ℕ) → calls ≡ before ++ (turn_at_by o h b ∷ after)
        → (acts (state_after acts start before) (turn_at_by o h b)).number ≡ 0
        → CarriedOutFor p source (state_after acts start before) (acts (state_after acts start before) (turn_at_by o h b)).after o b
        (turns_of b (events_of o (map call_of before)) (answers_of o (map call_of before) (answers_to acts start before)))

  pub record Demand212For (p : Plan) (sources : Sources) (collects : Sharing → ℕ → List ℕ → Answered (List ℕ)) : Type 0 where
    pub each : (o : ℕ) → o ≤ 1 → TenantDemand212 p o (source_for sources o) collects
    -- progress: if every processor with tiles left for either tenant is open at some minute
    pub goes_on : (calendar : List ℕ) → Faultless p calendar
        → ((o b : ℕ) → o ≤ 1 → b < p.processors → tiles_left p (own_of (last acts start calls) o) b ≡ true → OpensSometime calendar b)
        → (steps_for 0 < total p) ⊎ (steps_for 1 < total p) → SomeCall calendar
    pub then_fewer : (c : TimedCall) → (acts (last acts start calls) c).number ≡ 0 → (steps_for 0 < total p) ⊎ (steps_for 1 < total p)
    pub only_hours : (calendar : List ℕ) → Faultless p calendar → (steps_for 0 < total p) ⊎ (steps_for 1 < total p) → OnlyHoursFor p calendar

-- W-208's isolation, with hours: two runs that agree on tenant o's events, at whatever hours, and the numbers they got leave the same words in
-- its own areas, whatever the other tenant's source, calls and hours were. The shared words are no part of it.
pub record IsolatedAt (o : ℕ) (acts acts' : Sharing → TimedCall → Answered Sharing) (start start' : Sharing) : Type 0 where
  pub same_words : (calls calls' : List TimedCall) → events_of o (map call_of calls) ≡ events_of o (map call_of calls')
      → answers_for acts start calls o ≡ answers_for acts' start' calls' o
      → own_of (last acts start calls) o ≡ own_of (last acts' start' calls') o
