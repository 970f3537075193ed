-- Read this.
-- Boards that are each lent their own part alone: on every list of turns, posts and arrivals the answers and packets are the machine's network's, each
-- has its part, and the parts make up the sequential sweep. Renders the customer's demand 3 for boards with memory for nothing else.
use Rattle.std.specs.Prelude.{ℕ, ◌<◌, ◌≡◌, true, List, length}
use Rattle.base.specs.Lists.{Bytes, pack}
use Rattle.base.specs.Numbers.{first_of}
use Rattle.machine.specs.Machine.{fresh, sweep}
use Rattle.machine.specs.Runs.{act, total, last, answers}
use Rattle.layout.specs.RouteWords.{route_of}
use Rattle.recipe.specs.Routes.{lines_for}
use Rattle.engine.specs.Calls.{recipe}
use Rattle.network.specs.Apart.{AreasApart}
use Rattle.network.specs.Packets.{Network, NetworkEvent, act_network, start_network, steps_beside, last_network, MachineByPackets}
use Rattle.network.specs.Own.{own_cells}
use Rattle.part.specs.Part.{part_fits}
use Rattle.part_calls.specs.front.Calls.{to_part, part_fresh_call, part_collect_call}
use Rattle.network_runs.specs.part.Runs.{PartSources, part_start, acts_on_parts, collected_to}

-- one recipe and one route for all; each processor's source has the words of its own cells, in index order, and its fresh start gave 0
pub record BegunApart (bytes : List ℕ) (route : ℕ) (source : List ℕ) (sources : PartSources) (lent : AreasApart) : Type 0 where
  pub small : Bytes bytes
  pub accepted : first_of (lines_for (route_of route) bytes) ≡ 0
  pub whole : length source ≡ (recipe bytes route).cells
  pub own : (b : ℕ) → b < (recipe bytes route).processors → sources b ≡ pack source (own_cells (recipe bytes route) b)
  pub gave : (b : ℕ) → b < (recipe bytes route).processors → (part_fresh_call bytes route (lent b) b).number ≡ 0

-- after these events
module _ (bytes : List ℕ) (route : ℕ) (source : List ℕ) (sources : PartSources) (lent : AreasApart) (events : List NetworkEvent) where
  abbrev pub own_after : Network
  own_after = last (acts_on_parts bytes route sources) (part_start bytes route lent) events

  -- steps that the machine has taken
  abbrev pub steps_taken : ℕ
  steps_taken =
      steps_beside (act_network (recipe bytes route) source) (start_network (recipe bytes route)) events (recipe bytes route) (act (recipe bytes route) source)

  pub record PartDemand3 : Type 0 where
    -- the answers, one by one, and the packets are those of the machine's network, of which all is known
    pub same_answers : answers (acts_on_parts bytes route sources) (part_start bytes route lent) events
        ≡ answers (act_network (recipe bytes route) source) (start_network (recipe bytes route)) events
    pub same_packets : own_after.packets ≡ (last_network (recipe bytes route) source events).packets
    pub by_packets : MachineByPackets (recipe bytes route) source events
    -- each processor has its part
    pub same_parts : (b : ℕ) → b < (recipe bytes route).processors
        → own_after.areas b ≡ to_part (recipe bytes route) b ((last_network (recipe bytes route) source events).areas b)
    -- once all steps are taken each part is collected, into a grid of any content, and all of them make up the sequential sweep
    pub each_collects : steps_taken ≡ total (recipe bytes route) → (b : ℕ) → b < (recipe bytes route).processors
        → (grid : List ℕ) → length grid ≡ (recipe bytes route).cells → (part_collect_call bytes route (own_after.areas b) b grid).number ≡ 0
    pub grid : steps_taken ≡ total (recipe bytes route) → (old : List ℕ) → length old ≡ (recipe bytes route).cells
        → collected_to bytes route own_after.areas old (recipe bytes route).processors ≡ sweep (recipe bytes route) source

pub record PartDemands : Type 0 where
  -- every accepted recipe can so begin, with any source of its length, in areas of their lengths and any content; and there are such
  pub begins : (bytes : List ℕ) (route : ℕ) (source : List ℕ) → Bytes bytes → first_of (lines_for (route_of route) bytes) ≡ 0
      → length source ≡ (recipe bytes route).cells
      → (lent : AreasApart) → ((b : ℕ) → b < (recipe bytes route).processors → part_fits (recipe bytes route) b (lent b) ≡ true)
      → BegunApart bytes route source (λ b. pack source (own_cells (recipe bytes route) b)) lent
  pub can_fit : (bytes : List ℕ) (route : ℕ) (source : List ℕ) → Bytes bytes → first_of (lines_for (route_of route) bytes) ≡ 0
      → length source ≡ (recipe bytes route).cells
      → (b : ℕ) → b < (recipe bytes route).processors
      → part_fits (recipe bytes route) b (to_part (recipe bytes route) b (fresh (recipe bytes route))) ≡ true
  -- each list of events, for every accepted recipe, route and source
  pub by_own_parts : (bytes : List ℕ) (route : ℕ) (source : List ℕ) (sources : PartSources) (lent : AreasApart)
      → BegunApart bytes route source sources lent
      → (events : List NetworkEvent) → PartDemand3 bytes route source sources lent events
