-- Read this.
-- Request W-212 for a recipe's bytes and a route, made of the definitions in Calls; each call's contract equates the call with them.
-- Renders its claims: every call is fixed; demand 3 of runs with hours, for one tenant and for two, in lists with plain turns too; what is told of opening.
use Rattle.std.specs.Prelude.{◌≡◌, ℕ, ◌≤◌, List, Some}
use Rattle.base.specs.Lists.{Bytes}
use Rattle.machine.specs.Machine.{State, Answered, carry_out, next_action}
use Rattle.machine.specs.AnyCalls.{mixed}
use Rattle.tenants.specs.Tenants.{TenantAreas, carry_out_for, Sharing, Sources, source_for}
use Rattle.calendar.specs.Windows.{Moment, Timed, TimedCall, until_open}
use Rattle.tenants.specs.AnyCalls.{Alone208}
use Rattle.calendar.specs.Demands212.{TellsOpening, Demand212, Demand212For, IsolatedAt}
use Rattle.calendar.specs.AnyCalls.{Words212, Words212For, Mixed, MixedCall, mixed_call, Mixed212, Mixed212For}
use Rattle.engine.specs.Calls.{recipe, fresh_call, collect_call}
use Rattle.engine.specs.Demands as engine
use Rattle.engine.specs.Demands.{Fixed}
use Rattle.sharing.specs.Calls.{fresh_sharing_call, sharing_calls, sharing_collects}
use Rattle.calendar_calls.specs.Calls.{turn_call_lines_at, turn_call_at, turn_call_lines_at_for, turn_call_at_for, opens_lines, opens_call, calls_at, sharing_calls_at}

-- demand 1: the first true line counts; a call does its work, or leaves every lent word as before
pub record FixedAt (bytes : List ℕ) (route : ℕ) (source : List ℕ) (h : Moment) (b : ℕ) : Type 0 where
  pub turn : (s : State)
      → Fixed (turn_call_at bytes route source h s b) (turn_call_lines_at bytes route source h s b)
      (carry_out (recipe bytes route) source s b (next_action (recipe bytes route) s b)) s
  pub tenant_turn : (o : ℕ) (l : TenantAreas) (theirs : List ℕ)
      → Fixed (turn_call_at_for bytes route source o h l theirs b) (turn_call_lines_at_for bytes route source o h l theirs b)
      (carry_out_for (recipe bytes route) source o l b (next_action (recipe bytes route) l.own b)) l
  -- lent nothing to write: what it tells at a refusal is 0 minutes
  pub opens : Fixed (opens_call bytes h b) (opens_lines bytes h b) (until_open h.calendar h.minute b) (Some 0)

-- plain turns and turns with hours in one list: each by its own call
abbrev pub mixed_calls : List ℕ → ℕ → List ℕ → State → Mixed → Answered State
mixed_calls bytes route source = mixed (engine.calls bytes route source) (calls_at bytes route source)

abbrev pub mixed_sharing_calls : List ℕ → ℕ → Sources → Sharing → MixedCall → Answered Sharing
mixed_sharing_calls bytes route sources = mixed (sharing_calls bytes route sources) (sharing_calls_at bytes route sources)

pub record TimedDemands : Type 0 where
  pub calls : (bytes : List ℕ) (route : ℕ) (source : List ℕ) (h : Moment) (b : ℕ) → FixedAt bytes route source h b
  -- open then and at no minute before; never exactly if there is no such minute
  pub tells : (bytes : List ℕ) (h : Moment) (b : ℕ) → (opens_call bytes h b).number ≡ 0
      → TellsOpening (opens_call bytes h b).after h.calendar h.minute b
  -- one recipe, one route, one source, one fresh start that gave 0, and every list of deliveries and of turns, each with hours of its own
  pub runs : (bytes : List ℕ) (route : ℕ) (source : List ℕ) (s : State) → Bytes bytes → (fresh_call bytes route source s).number ≡ 0
      → (events : List Timed)
      → Demand212 (calls_at bytes route source) (fresh_call bytes route source s).after events (recipe bytes route) source
      (collect_call bytes route source)
  -- the same for two tenants
  pub tenant_runs : (bytes : List ℕ) (route : ℕ) (sources : Sources) (r : Sharing) → Bytes bytes
      → (fresh_sharing_call bytes route sources r).number ≡ 0 → (calls : List TimedCall)
      → Demand212For (sharing_calls_at bytes route sources) (fresh_sharing_call bytes route sources r).after calls (recipe bytes route) sources
      (sharing_collects bytes route sources)
  -- two such runs of one recipe and one route that have one source for this tenant
  pub apart : (bytes : List ℕ) (route : ℕ) (sources sources' : Sources) (r r' : Sharing) → Bytes bytes
      → (fresh_sharing_call bytes route sources r).number ≡ 0 → (fresh_sharing_call bytes route sources' r').number ≡ 0
      → (o : ℕ) → o ≤ 1 → source_for sources o ≡ source_for sources' o
      → IsolatedAt o (sharing_calls_at bytes route sources) (sharing_calls_at bytes route sources')
      (fresh_sharing_call bytes route sources r).after (fresh_sharing_call bytes route sources' r').after
  -- in runs with hours each turn that gave 0 wrote what its action does, a message's words stay from its send on, and the marks tell what was done of it
  pub words : (bytes : List ℕ) (route : ℕ) (source : List ℕ) (s : State) → Bytes bytes → (fresh_call bytes route source s).number ≡ 0
      → Words212 (calls_at bytes route source) (fresh_call bytes route source s).after (recipe bytes route) source
  pub tenant_words : (bytes : List ℕ) (route : ℕ) (sources : Sources) (r : Sharing) → Bytes bytes → (fresh_sharing_call bytes route sources r).number ≡ 0
      → Words212For (sharing_calls_at bytes route sources) (fresh_sharing_call bytes route sources r).after (recipe bytes route) sources
  -- all of it, and progress, for lists that mix plain turns and turns with hours
  pub mixed_runs : (bytes : List ℕ) (route : ℕ) (source : List ℕ) (s : State) → Bytes bytes → (fresh_call bytes route source s).number ≡ 0
      → (calls : List Mixed)
      → Mixed212 (mixed_calls bytes route source) (fresh_call bytes route source s).after (recipe bytes route) source (collect_call bytes route source) calls
  pub tenant_mixed_runs : (bytes : List ℕ) (route : ℕ) (sources : Sources) (r : Sharing) → Bytes bytes → (fresh_sharing_call bytes route sources r).number ≡ 0
      → (calls : List MixedCall)
      → Mixed212For (mixed_sharing_calls bytes route sources) (fresh_sharing_call bytes route sources r).after (recipe bytes route) sources
      (sharing_collects bytes route sources) calls
  -- a tenant's areas are left as in any other run with its source, its events and their numbers: on another sharing, or on a machine of its own
  pub alone : (bytes : List ℕ) (route : ℕ) (sources sources' : Sources) (r r' : Sharing) → Bytes bytes
      → (fresh_sharing_call bytes route sources r).number ≡ 0 → (fresh_sharing_call bytes route sources' r').number ≡ 0
      → (o : ℕ) → o ≤ 1 → source_for sources' o ≡ source_for sources o
      → Alone208 mixed_call (mixed_sharing_calls bytes route sources) mixed_call (mixed_sharing_calls bytes route sources')
      (engine.calls bytes route (source_for sources o)) (recipe bytes route) o
