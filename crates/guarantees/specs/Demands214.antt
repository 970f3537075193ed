-- Read this.
-- Two steps, either way round, for a recipe's bytes and a route, over the calls for one tenant and those for two, with hours and without.
-- Renders request W-214; any word may name the route. Each call's contract equates the call with the definitions used here.
use Rattle.std.specs.Prelude.{ℕ, ◌≡◌, List}
use Rattle.base.specs.Lists.{Bytes}
use Rattle.machine.specs.Machine.{State}
use Rattle.tenants.specs.Tenants.{Sharing, Sources}
use Rattle.calendar.specs.Windows.{event_of, call_of}
use Rattle.swaps.specs.OneTenant.{plainly, Demand214}
use Rattle.swaps.specs.TwoTenants.{wholly, Demand214For}
use Rattle.engine.specs.Calls.{recipe, fresh_call}
use Rattle.engine.specs.Demands.{calls}
use Rattle.sharing.specs.Calls.{fresh_sharing_call, sharing_calls}
use Rattle.calendar_calls.specs.Calls.{calls_at, sharing_calls_at}

pub record Demands214 : Type 0 where
  -- one recipe, one route, one source and one fresh start that gave 0
  pub one : (bytes : List ℕ) (route : ℕ) (source : List ℕ) (s : State) → Bytes bytes → (fresh_call bytes route source s).number ≡ 0
      → Demand214 plainly (calls bytes route source) (fresh_call bytes route source s).after
  -- one recipe, one route, two sources and one fresh start of both tenants that gave 0
  pub two : (bytes : List ℕ) (route : ℕ) (sources : Sources) (r : Sharing) → Bytes bytes → (fresh_sharing_call bytes route sources r).number ≡ 0
      → Demand214For wholly (recipe bytes route) (sharing_calls bytes route sources) (fresh_sharing_call bytes route sources r).after
  -- the same with hours, each turn with a table and a minute of its own; two turns of one processor for one tenant are the same event
  pub one_at : (bytes : List ℕ) (route : ℕ) (source : List ℕ) (s : State) → Bytes bytes → (fresh_call bytes route source s).number ≡ 0
      → Demand214 event_of (calls_at bytes route source) (fresh_call bytes route source s).after
  pub two_at : (bytes : List ℕ) (route : ℕ) (sources : Sources) (r : Sharing) → Bytes bytes → (fresh_sharing_call bytes route sources r).number ≡ 0
      → Demand214For call_of (recipe bytes route) (sharing_calls_at bytes route sources) (fresh_sharing_call bytes route sources r).after
