-- Read this.
-- Processors that share no memory, for a recipe's bytes and a route, over the calls themselves; which of them talk; and what a turn reads and writes.
-- Renders the customer's demand 3 for them, made of the definitions in Calls; any word may name the route.
use Rattle.std.specs.Prelude.{ℕ, ◌<◌, ◌≡◌, ◌≢◌, List, length}
use Rattle.base.specs.Lists.{Bytes}
use Rattle.base.specs.Numbers.{first_of}
use Rattle.machine.specs.Plan.{count}
use Rattle.machine.specs.Machine.{fresh}
use Rattle.machine.specs.Runs.{Event}
use Rattle.nest.specs.Reader.{nest_of}
use Rattle.plan.specs.declared.Route.TheVariants.{Indirect}
use Rattle.layout.specs.RouteWords.{route_of}
use Rattle.recipe.specs.Routes.{lines_for}
use Rattle.network.specs.Apart.{AreasApart, sender_at, taker_at, Demand3Apart}
use Rattle.network.specs.Packets.{NetworkEvent, mailed, ByPackets}
use Rattle.network.specs.Locality.{SameSource, Local}
use Rattle.network.specs.Own.{OwnPart}
use Rattle.network.specs.PartRuns.{PartRun}
use Rattle.engine.specs.Calls.{recipe, fresh_call, turn_call, collect_call}
use Rattle.engine.specs.Demands.{calls}
use Rattle.network_runs.specs.Calls.{Sources, start_calls, calls_apart, calls_network, start_network_calls}
use Rattle.network_runs.specs.Neighbours.{NextAlong}

-- one recipe and one route for all; each processor's own source has the words of its own cells, as the whole source has them, and its fresh start gave 0
pub record Begun (bytes : List ℕ) (route : ℕ) (source : List ℕ) (sources : Sources) (lent : AreasApart) : Type 0 where
  pub small : Bytes bytes
  pub accepted : first_of (lines_for (route_of route) bytes) ≡ 0
  pub whole : length source ≡ (recipe bytes route).cells
  pub own : (b : ℕ) → b < (recipe bytes route).processors → SameSource (recipe bytes route) b (sources b) source
  pub gave : (b : ℕ) → b < (recipe bytes route).processors → (fresh_call bytes route (sources b) (lent b)).number ≡ 0

pub record ApartDemands : Type 0 where
  -- every accepted recipe can so begin, with any source of its length
  pub begins : (bytes : List ℕ) (route : ℕ) (source : List ℕ) → Bytes bytes → first_of (lines_for (route_of route) bytes) ≡ 0
      → length source ≡ (recipe bytes route).cells → Begun bytes route source (λ b. source) (λ b. fresh (recipe bytes route))
  -- delivery as one event, and as two: beside the same calls on shared areas, which are lent the whole source; collecting is given areas joined
  -- from the processors' parts
  pub by_deliveries : (bytes : List ℕ) (route : ℕ) (source : List ℕ) (sources : Sources) (lent : AreasApart) → Begun bytes route source sources lent
      → (events : List Event)
      → Demand3Apart (calls_apart bytes route sources) (start_calls bytes route sources lent) events (recipe bytes route) source
      (calls bytes route source) (collect_call bytes route source)
  pub by_packets : (bytes : List ℕ) (route : ℕ) (source : List ℕ) (sources : Sources) (lent : AreasApart) → Begun bytes route source sources lent
      → (events : List NetworkEvent)
      → ByPackets (calls_network bytes route sources) (start_network_calls bytes route sources lent) events (recipe bytes route)
      (calls bytes route source) source (collect_call bytes route source)
  -- every message goes to another processor, so each has a packet: at most 2 for a tile and 3 for a message are the events that give 0
  pub away : (bytes : List ℕ) (route : ℕ) → Bytes bytes → first_of (lines_for (route_of route) bytes) ≡ 0
      → (m : ℕ) → m < count (recipe bytes route) → sender_at (recipe bytes route) m ≢ taker_at (recipe bytes route) m
  pub all_mailed : (bytes : List ℕ) (route : ℕ) → Bytes bytes → first_of (lines_for (route_of route) bytes) ≡ 0
      → mailed (recipe bytes route) ≡ count (recipe bytes route)
  -- on the indirect route only neighbours ever talk, each to the next along a dimension
  pub neighbours : (bytes : List ℕ) (route : ℕ) → Bytes bytes → route_of route ≡ Indirect → first_of (lines_for (route_of route) bytes) ≡ 0
      → (m : ℕ) → m < count (recipe bytes route)
      → NextAlong (nest_of bytes) (sender_at (recipe bytes route) m) (taker_at (recipe bytes route) m)
  -- a turn reads and writes what is its processor's alone; where the recipe is refused, nothing
  pub local : (bytes : List ℕ) (route : ℕ) → Bytes bytes → Local (recipe bytes route) (turn_call bytes route)
  -- and lent that part alone it answers the same
  pub own_part : (bytes : List ℕ) (route : ℕ) → Bytes bytes → first_of (lines_for (route_of route) bytes) ≡ 0
      → OwnPart (recipe bytes route) (turn_call bytes route)
  -- and so do whole runs of processors that each have that part alone: the answers, the packets and the collected grid of by-packets
  pub by_parts : (bytes : List ℕ) (route : ℕ) (source : List ℕ) (sources : Sources) (lent : AreasApart) → Begun bytes route source sources lent
      → (events : List NetworkEvent)
      → PartRun (recipe bytes route) (calls_network bytes route sources) (start_network_calls bytes route sources lent) events
