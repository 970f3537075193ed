-- Read this.
-- Request W-208 for a recipe's bytes and a route, made of the definitions in Calls; each call's contract equates the call with them.
-- Renders its claims: every call is fixed; each tenant's run is counted apart; progress; words and marks; nothing but the numbers tells one of the other.
use Rattle.std.specs.Prelude.{◌≡◌, ℕ, ◌≤◌, List, [], length}
use Rattle.base.specs.Lists.{Bytes}
use Rattle.base.specs.Numbers.{first_of}
use Rattle.machine.specs.Machine.{next_action, collected, memory_of}
use Rattle.tenants.specs.Tenants.{TenantAreas, carry_out_for, delivered_for, Sharing, Sources, source_for, own_of, fresh_sharing, Call}
use Rattle.tenants.specs.Demand208.{Demand208, Isolated}
use Rattle.tenants.specs.AnyCalls.{Words208, Alone208}
use Rattle.layout.specs.RouteWords.{route_of}
use Rattle.recipe.specs.Routes.{lines_for}
use Rattle.engine.specs.Calls.{answer, recipe}
use Rattle.engine.specs.Demands as engine
use Rattle.engine.specs.Demands.{Fixed, LentWords}
use Rattle.sharing.specs.Calls.{turn_call_lines_for, turn_call_for, deliver_call_lines_for, deliver_call_for, collect_call_lines_for, collect_call_for}
use Rattle.sharing.specs.Calls.{fresh_sharing_lines, fresh_sharing_call, view_lines, view_number, view_part, sharing_calls, sharing_collects}

-- demand 1 for a tenant's calls: its first true line counts; it does its work, or leaves every lent word as before
pub record FixedFor (bytes : List ℕ) (route : ℕ) (source : List ℕ) (o : ℕ) (l : TenantAreas) (theirs : List ℕ) : Type 0 where
  pub turn : (b : ℕ)
      → Fixed (turn_call_for bytes route source o l theirs b) (turn_call_lines_for bytes route source o l theirs b)
      (carry_out_for (recipe bytes route) source o l b (next_action (recipe bytes route) l.own b)) l
  pub deliver : (m : ℕ)
      → Fixed (deliver_call_for bytes route source o l theirs m) (deliver_call_lines_for bytes route source o l theirs m) (delivered_for l m) l
  pub collect : (grid : List ℕ)
      → Fixed (collect_call_for bytes route source o l theirs grid) (collect_call_lines_for bytes route source o l theirs grid)
      (collected (recipe bytes route) l.own) grid

-- the view writes nothing: its part is empty at a refusal, else the processor's memory of the tenant named
pub record Views (bytes : List ℕ) (r : Sharing) (o b : ℕ) : Type 0 where
  pub fixed : Fixed
      (answer (view_number bytes r.first.memories r.second.memories o b) (view_part bytes r.first.memories r.second.memories o b))
      (view_lines bytes r.first.memories r.second.memories o b)
      (memory_of (recipe bytes 0) (own_of r o) b) []

pub record SharingDemands : Type 0 where
  pub calls : (bytes : List ℕ) (route : ℕ) (source : List ℕ) (o : ℕ) (l : TenantAreas) (theirs : List ℕ) → FixedFor bytes route source o l theirs
  pub fresh : (bytes : List ℕ) (route : ℕ) (sources : Sources) (r : Sharing)
      → Fixed (fresh_sharing_call bytes route sources r) (fresh_sharing_lines bytes route sources r) (fresh_sharing (recipe bytes route)) r
  pub looks : (bytes : List ℕ) (r : Sharing) (o b : ℕ) → Views bytes r o b
  -- a run can begin: an accepted recipe on a route that is open to it, lent both tenants' areas of their lengths and a shared word a processor, is given 0
  -- by the fresh start, which the fields behind ask for
  pub begins : (bytes : List ℕ) (route : ℕ) (sources : Sources) (r : Sharing) → first_of (lines_for (route_of route) bytes) ≡ 0
      → LentWords (recipe bytes route) sources.first r.first → LentWords (recipe bytes route) sources.second r.second
      → length r.engaged ≡ (recipe bytes route).processors → (fresh_sharing_call bytes route sources r).number ≡ 0
  -- one recipe, one route, two sources, one fresh start that gave 0, and every list of both tenants' turns and deliveries
  pub runs : (bytes : List ℕ) (route : ℕ) (sources : Sources) (r : Sharing) → Bytes bytes → (fresh_sharing_call bytes route sources r).number ≡ 0
      → (calls : List Call)
      → Demand208 (sharing_calls bytes route sources) (fresh_sharing_call bytes route sources r).after calls (recipe bytes route) sources
      (sharing_collects bytes route sources)
  -- two such runs of one recipe and one route that have one source for this tenant
  pub apart : (bytes : List ℕ) (route : ℕ) (sources sources' : Sources) (r r' : Sharing) → Bytes bytes
      → (fresh_sharing_call bytes route sources r).number ≡ 0 → (fresh_sharing_call bytes route sources' r').number ≡ 0
      → (o : ℕ) → o ≤ 1 → source_for sources o ≡ source_for sources' o
      → Isolated o (sharing_calls bytes route sources) (sharing_calls bytes route sources')
      (fresh_sharing_call bytes route sources r).after (fresh_sharing_call bytes route sources' r').after
  -- in such a run each turn that gave 0 wrote what its action does, a message's words stay from its send on and are what its taker gathers, and the
  -- marks tell what was done of it: for each tenant, on its own areas; a call of one writes nothing of the other's
  pub words : (bytes : List ℕ) (route : ℕ) (sources : Sources) (r : Sharing) → Bytes bytes → (fresh_sharing_call bytes route sources r).number ≡ 0
      → Words208 (λ c. c) (sharing_calls bytes route sources) (fresh_sharing_call bytes route sources r).after (recipe bytes route) sources
  -- a tenant's areas are left as in any other run with its source, its events and their numbers: on another sharing, or on a machine of its own
  pub alone : (bytes : List ℕ) (route : ℕ) (sources sources' : Sources) (r r' : Sharing) → Bytes bytes
      → (fresh_sharing_call bytes route sources r).number ≡ 0 → (fresh_sharing_call bytes route sources' r').number ≡ 0
      → (o : ℕ) → o ≤ 1 → source_for sources' o ≡ source_for sources o
      → Alone208 (λ c. c) (sharing_calls bytes route sources) (λ c. c) (sharing_calls bytes route sources') (engine.calls bytes route (source_for sources o))
      (recipe bytes route) o
