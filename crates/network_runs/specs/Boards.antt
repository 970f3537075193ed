-- Read this. Boards that share nothing, by the calls really used: on whole areas a turn is `turn`, a message is handed over by `deliver` and taken in by
-- `take_in`; on own parts these are the part's turn, post and arrival. The claims, for every accepted recipe, route, source and list of calls over a transport
-- that carries what was posted. Renders document 01, "Runs", and the customer's demand 3, for processors that share no memory.
use Rattle.std.specs.Prelude.{ℕ, ◌<◌, ◌≡◌, List, length}
use Rattle.base.specs.Lists.{Bytes, sublist}
use Rattle.base.specs.Numbers.{first_of}
use Rattle.machine.specs.Plan.{held_by}
use Rattle.machine.specs.Machine.{place_of, Answered, sweep}
use Rattle.layout.specs.RouteWords.{route_of}
use Rattle.recipe.specs.Routes.{lines_for}
use Rattle.engine.specs.Calls.{recipe, turn_call, deliver_call, collect_call}
use Rattle.network.specs.Apart.{AreasApart}
use Rattle.network.specs.Packets.{Network, start_network}
use Rattle.network.specs.Brought.{BoardEvent, BoardCalls, act_boards, machine_boards, Carries}
use Rattle.network.specs.OnBoards.{whole, boards_after, packets_after, steps_got, OnBoards, OnWholeAreas, Collected, InAnyOrder}
use Rattle.transport.specs.Calls.{take_in_call}
use Rattle.transport.specs.Holds.{comes_to, Comes}
use Rattle.part.specs.Part.{mail_at}
use Rattle.part_calls.specs.front.Calls.{to_part, part_turn_call, part_post_call, part_arrive_call, part_collect_call}
use Rattle.network_runs.specs.Calls.{Sources, start_network_calls}
use Rattle.network_runs.specs.Demands.{Begun}
use Rattle.network_runs.specs.part.Runs.{PartSources, part_start, collected_to}
use Rattle.network_runs.specs.part.Demands.{BegunApart}

-- ---- whole areas: what goes with a message lies in its place of the buffer, which the row of `messages` tells
abbrev pub whole_calls : List ℕ → ℕ → Sources → BoardCalls
whole_calls bytes route sources =
    record {
      turns = λ b s. turn_call bytes route (sources b) s b;
      posts = λ b s m. deliver_call bytes route (sources b) s m;
      reads = λ b s m. place_of (recipe bytes route) s.buffer m;
      accepts = λ b s m ws. take_in_call bytes route (sources b) s b m ws;
    }

abbrev pub whole_boards : List ℕ → ℕ → Sources → Network → BoardEvent → Answered Network
whole_boards bytes route sources = act_boards (recipe bytes route).processors (whole_calls bytes route sources)

-- ---- own parts: it lies in the board's mail, where the row of the part's messages tells
abbrev pub part_calls : List ℕ → ℕ → PartSources → BoardCalls
part_calls bytes route sources =
    record {
      turns = λ b s. part_turn_call bytes route (sources b) s b;
      posts = λ b s m. part_post_call bytes route s b m;
      reads = λ b s m. sublist s.buffer (mail_at (recipe bytes route) b m) (length (held_by (recipe bytes route) m));
      accepts = λ b s m ws. part_arrive_call bytes route s b m ws;
    }

abbrev pub part_boards : List ℕ → ℕ → PartSources → Network → BoardEvent → Answered Network
part_boards bytes route sources = act_boards (recipe bytes route).processors (part_calls bytes route sources)

-- ---- collecting part by part, after these events
module _ (bytes : List ℕ) (route : ℕ) (source : List ℕ) (sources : PartSources) (lent : AreasApart) (events : List BoardEvent) where
  abbrev pub parts_after : Network
  parts_after = boards_after (part_boards bytes route sources) (part_start bytes route lent) events

  -- board b's part collected into a grid
  abbrev pub collected_from : ℕ → List ℕ → Answered (List ℕ)
  collected_from b grid = part_collect_call bytes route (parts_after.areas b) b grid

  abbrev pub part_steps : ℕ
  part_steps = steps_got (part_boards bytes route sources) (part_start bytes route lent) events

  pub record OnParts : Type 0 where
    -- each board has its part of what the machine's board has after the same events
    pub same_parts : (b : ℕ) → b < (recipe bytes route).processors
        → parts_after.areas b
        ≡ to_part (recipe bytes route) b ((boards_after (machine_boards (recipe bytes route) source) (start_network (recipe bytes route)) events).areas b)
    -- whatever the others have done: where collecting board b's part gives 0, the grid has the sweep's words at b's cells, the boundary outside the shape,
    -- and else what it had
    pub collects : (b : ℕ) → b < (recipe bytes route).processors → (old : List ℕ) → (collected_from b old).number ≡ 0
        → Collected (recipe bytes route) source b old (collected_from b old).after
    -- where it gives 0 for all boards, all steps are taken; and then it does
    pub then_all : ((b : ℕ) → b < (recipe bytes route).processors → (old : List ℕ) × ((collected_from b old).number ≡ 0))
        → part_steps ≡ whole (recipe bytes route)
    pub each_collects : part_steps ≡ whole (recipe bytes route) → (b : ℕ) → b < (recipe bytes route).processors
        → (old : List ℕ) → length old ≡ (recipe bytes route).cells → (collected_from b old).number ≡ 0
    -- one board after the other
    pub grid : part_steps ≡ whole (recipe bytes route) → (old : List ℕ) → length old ≡ (recipe bytes route).cells
        → collected_to bytes route parts_after.areas old (recipe bytes route).processors ≡ sweep (recipe bytes route) source

-- ---- the claims
pub record BoardDemands : Type 0 where
  pub on_boards : (bytes : List ℕ) (route : ℕ) (source : List ℕ) (sources : Sources) (lent : AreasApart) → Begun bytes route source sources lent
      → (events : List BoardEvent) → Carries (whole_boards bytes route sources) (start_network_calls bytes route sources lent) events
      → OnBoards (whole_boards bytes route sources) (start_network_calls bytes route sources lent) events (recipe bytes route) source
  pub on_whole_areas : (bytes : List ℕ) (route : ℕ) (source : List ℕ) (sources : Sources) (lent : AreasApart) → Begun bytes route source sources lent
      → (events : List BoardEvent) → Carries (whole_boards bytes route sources) (start_network_calls bytes route sources lent) events
      → OnWholeAreas (whole_boards bytes route sources) (start_network_calls bytes route sources lent) events (recipe bytes route) source
      (collect_call bytes route source)
  -- what was posted meets all that transport/specs/Holds asks of a packet that comes, so taking it in is its arrival in Packets
  pub comes : (bytes : List ℕ) (route : ℕ) (source : List ℕ) (sources : Sources) (lent : AreasApart) → Begun bytes route source sources lent
      → (events : List BoardEvent) → Carries (whole_boards bytes route sources) (start_network_calls bytes route sources lent) events
      → (k : ℕ) → k < length (packets_after (whole_boards bytes route sources) (start_network_calls bytes route sources lent) events)
      → Comes (recipe bytes route)
      (sources (comes_to (recipe bytes route) (boards_after (whole_boards bytes route sources) (start_network_calls bytes route sources lent) events) k))
      (boards_after (whole_boards bytes route sources) (start_network_calls bytes route sources lent) events) k
  pub on_boards_parts : (bytes : List ℕ) (route : ℕ) (source : List ℕ) (sources : PartSources) (lent : AreasApart)
      → BegunApart bytes route source sources lent
      → (events : List BoardEvent) → Carries (part_boards bytes route sources) (part_start bytes route lent) events
      → OnBoards (part_boards bytes route sources) (part_start bytes route lent) events (recipe bytes route) source
  pub on_parts : (bytes : List ℕ) (route : ℕ) (source : List ℕ) (sources : PartSources) (lent : AreasApart)
      → BegunApart bytes route source sources lent
      → (events : List BoardEvent) → Carries (part_boards bytes route sources) (part_start bytes route lent) events
      → OnParts bytes route source sources lent events
  -- parts may be collected in any order, at different times, some of them again
  pub in_any_order : (bytes : List ℕ) (route : ℕ) (source : List ℕ) → Bytes bytes → first_of (lines_for (route_of route) bytes) ≡ 0
      → InAnyOrder (recipe bytes route) source
