-- Read this. Turns with hours: what they write and leave, as demand 2 has it; and runs whose list mixes plain turns and turns with hours.
-- Renders requests W-208 and W-212 beside document 01, "The machine" and "Runs", by the claims of AnyCalls in machine and tenants.
use Rattle.std.specs.Prelude.{ℕ, ◌≤◌, ◌<◌, ◌≡◌, ◌⊎◌, true, List, []}
use Rattle.std.proofs.Common.{inl, inr}
use Rattle.machine.specs.Plan.{Plan}
use Rattle.machine.specs.Machine.{State, Answered, tiles_left}
use Rattle.machine.specs.Runs.{Event, act, state_after, total}
use Rattle.machine.specs.AnyCalls.{whole, mixed, either, steps_of, Demand3In, WordsIn}
use Rattle.tenants.specs.Tenants.{Sharing, Sources, own_of, Call, act_on}
use Rattle.tenants.specs.AnyCalls.{tenant_view, Words208, Demand3For, GoesOnFor}
use Rattle.calendar.specs.Windows.{Timed, event_of, act_at, TimedCall, call_of, act_at_on}
use Rattle.calendar.specs.Demands212.{Faultless, OpensSometime, SomeStep, SomeCall}

-- ---- turns with hours alone, of one tenant and of one of two
abbrev pub Words212 : (State → Timed → Answered State) → State → Plan → List ℕ → Type 0
Words212 acts start p source = WordsIn (whole event_of) acts start p source

abbrev pub Words212For : (Sharing → TimedCall → Answered Sharing) → Sharing → Plan → Sources → Type 0
Words212For acts start p sources = Words208 call_of acts start p sources

-- ---- plain events and events with hours in one list
abbrev pub Mixed : Type 0
Mixed = Event ⊎ Timed

abbrev pub mixed_event : Mixed → Event
mixed_event = either (λ e. e) event_of

abbrev pub act_mixed : Plan → List ℕ → State → Mixed → Answered State
act_mixed p source = mixed (act p source) (act_at p source)

abbrev pub MixedCall : Type 0
MixedCall = Call ⊎ TimedCall

abbrev pub mixed_call : MixedCall → Call
mixed_call = either (λ c. c) call_of

abbrev pub act_mixed_on : Plan → Sources → Sharing → MixedCall → Answered Sharing
act_mixed_on p sources = mixed (act_on p sources) (act_at_on p sources)

-- the claims about a list of such calls from `start`, by the answers that `acts` gives: of the machine, or of any calls that answer alike
pub record Mixed212 (acts : State → Mixed → Answered State) (start : State) (p : Plan) (source : List ℕ) (collects : State → List ℕ → Answered (List ℕ))
    (calls : List Mixed) : Type 0 where
  pub demand : Demand3In (whole mixed_event) acts start p source collects calls
  pub words : WordsIn (whole mixed_event) acts start p source
  -- while steps are left some plain event would give 0
  pub goes_on : steps_of (whole mixed_event) acts start calls < total p → (e : Event) × ((acts (state_after acts start calls) (inl e)).number ≡ 0)
  -- and with hours: if every processor with tiles left is open at some minute, some delivery, or some turn then, would give 0
  pub goes_on_at : (calendar : List ℕ) → Faultless p calendar
      → ((b : ℕ) → b < p.processors → tiles_left p (state_after acts start calls) b ≡ true → OpensSometime calendar b)
      → steps_of (whole mixed_event) acts start calls < total p → SomeStep (λ s x. acts s (inr x)) (state_after acts start calls) [] calendar

pub record Mixed212For (acts : Sharing → MixedCall → Answered Sharing) (start : Sharing) (p : Plan) (sources : Sources)
    (collects : Sharing → ℕ → List ℕ → Answered (List ℕ)) (calls : List MixedCall) : Type 0 where
  pub demand : Demand3For mixed_call acts start p sources collects calls
  pub words : Words208 mixed_call acts start p sources
  pub goes_on : GoesOnFor mixed_call acts start p calls
  pub goes_on_at : (calendar : List ℕ) → Faultless p calendar
      → ((o b : ℕ) → o ≤ 1 → b < p.processors → tiles_left p (own_of (state_after acts start calls) o) b ≡ true → OpensSometime calendar b)
      → (steps_of (tenant_view mixed_call 0) acts start calls < total p) ⊎ (steps_of (tenant_view mixed_call 1) acts start calls < total p)
      → SomeCall (λ r c. acts r (inr c)) (state_after acts start calls) [] calendar
