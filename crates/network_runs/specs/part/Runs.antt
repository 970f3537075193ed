-- Read this.
-- Processors that are each lent their own part alone, by the calls themselves: a fresh start, turns, messages posted and arriving, collecting part by part.
-- Renders document 01, "The machine" and "Runs", for boards with memory for nothing else. Each call's contract equates the call with a definition used here.
use Rattle.std.specs.Prelude.{ℕ, zero, suc, List, [], ◌∷◌, ◌++◌, length, ltb, eqb}
use Rattle.base.specs.Tests.{pick}
use Rattle.base.specs.Lists.{sublist}
use Rattle.machine.specs.Plan.{Plan, count, held_by}
use Rattle.machine.specs.Machine.{State, Answered}
use Rattle.engine.specs.Calls.{recipe}
use Rattle.network.specs.Apart.{AreasApart, replaced, sender_at, taker_at}
use Rattle.network.specs.Packets.{Packet, Network, network_of, packet_at, NetworkEvent, turn_by, post_of, arrival_of}
use Rattle.part.specs.Part.{mail_at}
use Rattle.part_calls.specs.front.Calls.{part_fresh_call, part_turn_call, part_post_call, part_arrive_call, part_collect_call}

-- a network as network/specs/Packets has it, but here `areas b` is what processor b is lent: its own part

-- the source lent to each processor: the words of its own cells
abbrev pub PartSources : Type 0
PartSources = ℕ → List ℕ

-- each processor's fresh start, in the areas that it is lent
unfoldable pub part_start : List ℕ → ℕ → AreasApart → Network
part_start bytes route lent = network_of (λ b. (part_fresh_call bytes route (lent b) b).after) []

-- ---- a turn: the call on the processor's part

abbrev pub turned : List ℕ → ℕ → PartSources → Network → ℕ → Answered State
turned bytes route sources n b = part_turn_call bytes route (sources b) (n.areas b) b

unfoldable pub turn_on_part : List ℕ → ℕ → PartSources → Network → ℕ → Answered Network
turn_on_part bytes route sources n b =
    pick (ltb b (recipe bytes route).processors)
    (record {
      number = (turned bytes route sources n b).number;
      after = network_of (replaced n.areas b (turned bytes route sources n b).after) n.packets;
    })
    (record { number = 11; after = n })

-- ---- message m is posted: the call on its sender's part; the packet has the words that lie in its place in the sender's mail

abbrev pub from : List ℕ → ℕ → ℕ → ℕ
from bytes route m = sender_at (recipe bytes route) m

abbrev pub handed_over : List ℕ → ℕ → Network → ℕ → Answered State
handed_over bytes route n m = part_post_call bytes route (n.areas (from bytes route m)) (from bytes route m) m

abbrev pub packet_in : Plan → ℕ → State → ℕ → Packet
packet_in p b s m = record { message = m; words = sublist s.buffer (mail_at p b m) (length (held_by p m)) }

unfoldable pub post_on_part : List ℕ → ℕ → Network → ℕ → Answered Network
post_on_part bytes route n m =
    pick (ltb m (count (recipe bytes route)))
    (record {
      number = (handed_over bytes route n m).number;
      after = network_of (replaced n.areas (from bytes route m) (handed_over bytes route n m).after)
          (n.packets
          ++ pick (eqb (handed_over bytes route n m).number 0)
          (packet_in (recipe bytes route) (from bytes route m) (n.areas (from bytes route m)) m ∷ []) []);
    })
    (record { number = 11; after = n })

-- ---- the k-th packet arrives: the call on its taker's part

abbrev pub carried_by : Network → ℕ → ℕ
carried_by n k = (packet_at n.packets k).message

abbrev pub to : List ℕ → ℕ → ℕ → ℕ
to bytes route m = taker_at (recipe bytes route) m

abbrev pub taken_in : List ℕ → ℕ → Network → ℕ → Answered State
taken_in bytes route n k =
    part_arrive_call bytes route (n.areas (to bytes route (carried_by n k))) (to bytes route (carried_by n k)) (carried_by n k) (packet_at n.packets k).words

unfoldable pub arrive_on_part : List ℕ → ℕ → Network → ℕ → Answered Network
arrive_on_part bytes route n k =
    pick (ltb k (length n.packets))
    (record {
      number = (taken_in bytes route n k).number;
      after = network_of (replaced n.areas (to bytes route (carried_by n k)) (taken_in bytes route n k).after) n.packets;
    })
    (record { number = 11; after = n })

unfoldable pub acts_on_parts : List ℕ → ℕ → PartSources → Network → NetworkEvent → Answered Network
acts_on_parts bytes route sources n (turn_by b) = turn_on_part bytes route sources n b
acts_on_parts bytes route sources n (post_of m) = post_on_part bytes route n m
acts_on_parts bytes route sources n (arrival_of k) = arrive_on_part bytes route n k

-- ---- a grid into which the parts of the processors below n were put, one after the other
unfoldable pub collected_to : List ℕ → ℕ → AreasApart → List ℕ → ℕ → List ℕ
collected_to bytes route areas grid zero = grid
collected_to bytes route areas grid (suc b) = (part_collect_call bytes route (areas b) b (collected_to bytes route areas grid b)).after
