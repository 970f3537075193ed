-- Read this. Runs of two tenants by any calls that answer like the sharing but may refuse more: plain calls, calls with hours, or both in one list.
-- Renders request W-208: each tenant's steps, cells, messages and words are taken and counted apart, by the claims of the machine's AnyCalls.
use Rattle.std.specs.Prelude.{ℕ, ◌≤◌, ◌<◌, ◌≡◌, ◌⊎◌, ◌≢◌, List, eqb}
use Rattle.machine.specs.Plan.{Plan}
use Rattle.machine.specs.Machine.{State, Answered, fresh}
use Rattle.machine.specs.Runs.{Event, state_after, total}
use Rattle.machine.specs.AnyCalls.{View, whole, steps_of, Demand3In, WordsIn, Alone}
use Rattle.tenants.specs.Tenants.{Sharing, Sources, source_for, own_of, fresh_sharing, Call}

-- C: the calls; call_of: what the sharing without hours reads of one

-- tenant o's part of a sharing and of its calls
abbrev pub tenant_view : {C : Type 0} → (C → Call) → ℕ → View Sharing C
tenant_view call_of o = record { own = λ r. own_of r o; ours = λ c. eqb (call_of c).tenant o; event = λ c. (call_of c).event }

-- `start` is the sharing after a fresh start of both tenants
module _ {C : Type 0} (call_of : C → Call) (acts : Sharing → C → Answered Sharing) (start : Sharing) where
  -- demand 2's words and the marks, for each tenant; a call of one tenant writes nothing of the other
  pub record Words208 (p : Plan) (sources : Sources) : Type 0 where
    pub each : (o : ℕ) → o ≤ 1 → WordsIn (tenant_view call_of o) acts start p (source_for sources o)
    pub others : (before : List C) (c : C) (o : ℕ) → o ≤ 1 → (call_of c).tenant ≢ o
        → own_of (acts (state_after acts start before) c).after o ≡ own_of (state_after acts start before) o

  -- demand 3, for each tenant, collecting being its own
  pub record Demand3For (p : Plan) (sources : Sources) (collects : Sharing → ℕ → List ℕ → Answered (List ℕ)) (calls : List C) : Type 0 where
    pub each : (o : ℕ) → o ≤ 1 → Demand3In (tenant_view call_of o) acts start p (source_for sources o) (λ r. collects r o) calls
    pub then_fewer : (c : C) → (acts (state_after acts start calls) c).number ≡ 0
        → (steps_of (tenant_view call_of 0) acts start calls < total p) ⊎ (steps_of (tenant_view call_of 1) acts start calls < total p)

  -- progress, for calls among which a plain one can always be tried
  pub record GoesOnFor (p : Plan) (calls : List C) : Type 0 where
    pub goes_on : (steps_of (tenant_view call_of 0) acts start calls < total p) ⊎ (steps_of (tenant_view call_of 1) acts start calls < total p)
        → (c : C) × ((acts (state_after acts start calls) c).number ≡ 0)

-- nothing but the numbers tells one tenant of the other: two rigs, by calls of any kind each, and a tenant alone on a machine of its own
pub record Alone208 {C D : Type 0} (call_of : C → Call) (acts : Sharing → C → Answered Sharing) (call_of' : D → Call) (acts' : Sharing → D → Answered Sharing)
    (single : State → Event → Answered State) (p : Plan) (o : ℕ) : Type 0 where
  pub same_words : Alone (tenant_view call_of o) acts (fresh_sharing p) (tenant_view call_of' o) acts' (fresh_sharing p)
  pub as_single : Alone (tenant_view call_of o) acts (fresh_sharing p) (whole (λ e. e)) single (fresh p)
