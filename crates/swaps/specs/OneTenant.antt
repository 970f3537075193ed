-- Read this.
-- Request W-214 for one tenant: which two events are different, and the claims about every run from one start.
-- proofs/ proves them for every sound plan and source, and for any calls that answer like the machine but may refuse more.
use Rattle.std.specs.Prelude.{◌≢◌, List}
use Rattle.machine.specs.Machine.{State, Answered}
use Rattle.machine.specs.Runs.{Event, state_after}
use Rattle.swaps.specs.Swaps.{Swaps, Rewinds}

-- event_of: what the machine reads of an event. Two are different if one is a turn and the other a delivery, or their numbers differ: two
-- turns of one processor are the same event, at any minutes
abbrev pub Different : {S X : Type 0} → (X → Event) → S → X → X → Type 0
Different event_of s x y = event_of x ≢ event_of y

-- an event without hours is all that the machine reads
abbrev pub plainly : Event → Event
plainly e = e

-- `start` is the state after a fresh start
pub record Demand214 {X : Type 0} (event_of : X → Event) (acts : State → X → Answered State) (start : State) : Type 0 where
  -- from any state that a run can reach
  pub swaps : (events : List X) → Swaps (Different event_of) acts (state_after acts start events)
  pub rewinds : Rewinds (Different event_of) acts start
