-- Read this.
-- Delivery as two events: a message is posted at its sender's and arrives at its taker's, or it does so late, again, out of order, or never.
-- Renders document 01, "The machine" and "Runs", for processors that share no memory and a transport of which nothing is promised.
use Rattle.std.specs.Prelude.{ℕ, ◌+◌, ◌≤◌, ◌<◌, ◌≡◌, ◌≢◌, List, [], ◌∷◌, ◌++◌, map, length, get_or, ltb, eqb}
use Rattle.base.specs.Tests.{not, pick, keep}
use Rattle.base.specs.Numbers.{Line, line, first_of}
use Rattle.machine.specs.Plan.{Plan, count, held_by}
use Rattle.machine.specs.Machine.{State, finished_of, stage_of, sent_of, memory_of, place_of, Answered, answered, collect, fresh, sweep}
use Rattle.machine.specs.Runs.{Event, turn_of, delivery_of, act, total, steps, last, Collects, Demand3}
use Rattle.network.specs.Apart.{AreasApart, start_apart, sender_at, taker_at, turn_apart, sent_off, arrived, joined, collect_apart}

-- a message's number and its words as they were when it was posted
pub record Packet : Type 0 where
  pub message : ℕ
  pub words : List ℕ

-- the processors' own areas, and every packet ever posted: none is removed, so each may arrive at any time, more than once, or never
pub record Network : Type 0 where
  pub areas : AreasApart
  pub packets : List Packet

abbrev pub network_of : AreasApart → List Packet → Network
network_of areas packets = record { areas = areas; packets = packets }

abbrev pub packet_at : List Packet → ℕ → Packet
packet_at packets k = get_or packets k (record { message = 0; words = [] })

abbrev pub status_at : AreasApart → ℕ → ℕ → ℕ
status_at areas b m = get_or (areas b).status m 0

-- a turn of a processor, the posting of a message, the arrival of the k-th packet
pub data NetworkEvent : Type 0 where
  turn_by post_of arrival_of : ℕ → NetworkEvent

-- what is posted of message m: nothing where its taker is its sender's own processor
unfoldable pub posted : Plan → AreasApart → ℕ → List Packet
posted p areas m = pick (eqb (sender_at p m) (taker_at p m)) [] (record { message = m; words = place_of p (areas (sender_at p m)).buffer m } ∷ [])

-- it is posted where it is in flight at its sender's, and is delivered from then on as far as the sender knows
abbrev pub post_lines : Plan → Network → ℕ → List Line
post_lines p n m = line 11 (not (ltb m (count p))) ∷ line 14 (not (eqb (status_at n.areas (sender_at p m) m) 1)) ∷ []

unfoldable pub post : Plan → Network → ℕ → Answered Network
post p n m = answered (first_of (post_lines p n m)) (network_of (sent_off p n.areas m) (n.packets ++ posted p n.areas m)) n

-- a packet is taken in where its message has status 0 at its taker's; any other is turned away
abbrev pub arrival_lines : Plan → Network → ℕ → List Line
arrival_lines p n k =
    line 11 (not (ltb k (length n.packets))) ∷
    line 14 (not (eqb (status_at n.areas (taker_at p (packet_at n.packets k).message) (packet_at n.packets k).message) 0)) ∷ []

unfoldable pub arrive : Plan → Network → ℕ → Answered Network
arrive p n k =
    answered (first_of (arrival_lines p n k))
    (network_of (arrived p n.areas (packet_at n.packets k).message (packet_at n.packets k).words) n.packets) n

unfoldable pub turn_network : Plan → List ℕ → Network → ℕ → Answered Network
turn_network p source n b =
    record { number = (turn_apart p source n.areas b).number; after = network_of (turn_apart p source n.areas b).after n.packets }

unfoldable pub act_network : Plan → List ℕ → Network → NetworkEvent → Answered Network
act_network p source n (turn_by b) = turn_network p source n b
act_network p source n (post_of m) = post p n m
act_network p source n (arrival_of k) = arrive p n k

abbrev pub start_network : Plan → Network
start_network p = network_of (start_apart p) []

-- ---- a run on shared areas beside it

-- what an event that gave x is there: an arrival that is taken in is a delivery, and so is a post that needs no packet; another post is none of its events
unfoldable pub machine_events : Plan → Network → NetworkEvent → ℕ → List Event
machine_events p n (turn_by b) x = turn_of b ∷ []
machine_events p n (post_of m) x = pick (eqb x 0) (pick (eqb (sender_at p m) (taker_at p m)) (delivery_of m ∷ []) []) []
machine_events p n (arrival_of k) x = pick (eqb x 0) (delivery_of (packet_at n.packets k).message ∷ []) []

unfoldable pub machine_run : (Network → NetworkEvent → Answered Network) → Plan → Network → List NetworkEvent → List Event
machine_run acts p n [] = []
machine_run acts p n (e ∷ es) = machine_events p n e (acts n e).number ++ machine_run acts p (acts n e).after es

-- how many messages go to another processor
unfoldable pub mailed : Plan → ℕ
mailed p = length (keep (λ m. not (eqb (sender_at p m) (taker_at p m))) (count p))

-- ---- the claim, over every list of events, for `acts` on a network beside `shared` on shared areas: the machine's, or any calls that answer alike

module _ (acts : Network → NetworkEvent → Answered Network) (start : Network) (events : List NetworkEvent) where
  abbrev pub network_after : Network
  network_after = last acts start events

  abbrev pub sent_packets : List Packet
  sent_packets = network_after.packets

  abbrev pub steps_here : ℕ
  steps_here = steps acts start events

  module _ (p : Plan) (shared : State → Event → Answered State) where
    abbrev pub besides : List Event
    besides = machine_run acts p start events

    abbrev pub last_beside : State
    last_beside = last shared (fresh p) besides

    abbrev pub steps_beside : ℕ
    steps_beside = steps shared (fresh p) besides

    pub record ByPackets (source : List ℕ) (collects : State → List ℕ → Answered (List ℕ)) : Type 0 where
      -- the run beside it has all of demand 3: no cell calculated twice, no message sent, delivered or taken twice
      pub beside : Demand3 shared (fresh p) besides p source collects
      -- a turn would now give what it gives there, and each processor has its part of the memories and its record
      pub same_turn : (b : ℕ) → (acts network_after (turn_by b)).number ≡ (shared last_beside (turn_of b)).number
      pub same_memory : (b : ℕ) → b < p.processors → memory_of p (network_after.areas b) b ≡ memory_of p last_beside b
      pub same_finished : (b : ℕ) → b < p.processors → finished_of (network_after.areas b) b ≡ finished_of last_beside b
      pub same_stage : (b : ℕ) → b < p.processors → stage_of (network_after.areas b) b ≡ stage_of last_beside b
      pub same_sent : (b : ℕ) → b < p.processors → sent_of (network_after.areas b) b ≡ sent_of last_beside b
      -- the events that gave 0 are the machine's steps and one for each packet; so they are at most its total and the messages that go to another
      -- processor, which are at most all
      pub counted : steps_here ≡ steps_beside + length sent_packets
      pub few_packets : length sent_packets ≤ mailed p
      pub bounded : steps_here ≤ total p + mailed p
      pub bounded_all : steps_here ≤ total p + count p
      -- a packet goes from one processor to another, and has the sweep's words of its message's cells
      pub goes : (k : ℕ) → k < length sent_packets
          → ((packet_at sent_packets k).message < count p)
          × (sender_at p (packet_at sent_packets k).message ≢ taker_at p (packet_at sent_packets k).message)
      -- no message has two
      pub once : (i k : ℕ) → i < length sent_packets → k < length sent_packets
          → (packet_at sent_packets i).message ≡ (packet_at sent_packets k).message → i ≡ k
      pub carries : (k : ℕ) → k < length sent_packets
          → (packet_at sent_packets k).words ≡ map (λ c. get_or (sweep p source) c 0) (held_by p (packet_at sent_packets k).message)
      -- from its send on a message's place at its sender's has the sweep's words, whatever comes: it is not written again, and a transport may read it later
      pub stays : (m : ℕ) → m < count p → 1 ≤ get_or last_beside.status m 0
          → place_of p (network_after.areas (sender_at p m)).buffer m ≡ map (λ c. get_or (sweep p source) c 0) (held_by p m)
      pub lies_there : (k : ℕ) → k < length sent_packets
          → place_of p (network_after.areas (sender_at p (packet_at sent_packets k).message)).buffer (packet_at sent_packets k).message
          ≡ (packet_at sent_packets k).words
      -- one that comes where its message's status isn't 0 is turned away, and nothing is written
      pub turned_away : (k : ℕ) → k < length sent_packets
          → status_at network_after.areas (taker_at p (packet_at sent_packets k).message) (packet_at sent_packets k).message ≢ 0
          → acts network_after (arrival_of k) ≡ record { number = 14; after = network_after }
      -- while the machine has steps left some event gives 0, if only the arrival of a packet that was posted; and no longer
      pub goes_on : steps_beside < total p → (e : NetworkEvent) × ((acts network_after e).number ≡ 0)
      pub then_fewer : (e : NetworkEvent) → (acts network_after e).number ≡ 0 → steps_beside < total p
      -- collecting gives 0 exactly when it has none, and then the grid is the sequential sweep
      pub collecting : Collects p source (steps_beside ≡ total p) (collect_apart p network_after.areas)
      -- and so does collecting on areas joined from the processors' parts and records, as on shared ones
      pub joins : (grid : List ℕ) → collects (joined p network_after.areas) grid ≡ collects last_beside grid
      pub joined_grid : steps_beside ≡ total p → (old : List ℕ) → length old ≡ p.cells
          → collects (joined p network_after.areas) old ≡ record { number = 0; after = sweep p source }

-- ---- of the machine

abbrev pub last_network : Plan → List ℕ → List NetworkEvent → Network
last_network p source events = network_after (act_network p source) (start_network p) events

abbrev pub MachineByPackets : Plan → List ℕ → List NetworkEvent → Type 0
MachineByPackets p source events = ByPackets (act_network p source) (start_network p) events p (act p source) source (collect p)
