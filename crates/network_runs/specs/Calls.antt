-- Read this.
-- Processors that share no memory, by the calls themselves: each is lent its own source and its own four areas, and every call is on one processor's.
-- Renders document 01, "The machine" and "Runs", for them. Each call's contract equates the call with a definition used here. Arrival is a copy and a
-- delivery here, for a program without `take_in`; runs by `take_in` are in Boards.
use Rattle.std.specs.Prelude.{ℕ, List, [], ◌++◌, ltb, eqb}
use Rattle.base.specs.Tests.{◌and◌, not, pick}
use Rattle.base.specs.Numbers.{first_of}
use Rattle.machine.specs.Plan.{count}
use Rattle.machine.specs.Machine.{State, place_of, Answered}
use Rattle.machine.specs.Runs.{Event, turn_of, delivery_of}
use Rattle.network.specs.Apart.{AreasApart, replaced, sender_at, taker_at}
use Rattle.network.specs.Transport.{copied}
use Rattle.network.specs.Packets.{Network, network_of, packet_at, NetworkEvent, turn_by, post_of, arrival_of, posted, arrival_lines}
use Rattle.engine.specs.Calls.{recipe, fresh_call, turn_call, deliver_call}

-- the source lent to each processor
abbrev pub Sources : Type 0
Sources = ℕ → List ℕ

-- each processor's fresh start, in the areas that it is lent
unfoldable pub start_calls : List ℕ → ℕ → Sources → AreasApart → AreasApart
start_calls bytes route sources lent b = (fresh_call bytes route (sources b) (lent b)).after

-- a turn of processor b is the call on its own areas
unfoldable pub turn_by_call : List ℕ → ℕ → Sources → AreasApart → ℕ → Answered AreasApart
turn_by_call bytes route sources areas b =
    pick (ltb b (recipe bytes route).processors)
    (record {
      number = (turn_call bytes route (sources b) (areas b) b).number;
      after = replaced areas b (turn_call bytes route (sources b) (areas b) b).after;
    })
    (record { number = 11; after = areas })

-- ---- message m

-- at its sender's: the delivery call
abbrev pub hands_over : List ℕ → ℕ → Sources → AreasApart → ℕ → Answered State
hands_over bytes route sources areas m =
    deliver_call bytes route (sources (sender_at (recipe bytes route) m)) (areas (sender_at (recipe bytes route) m)) m

abbrev pub handed_over : List ℕ → ℕ → Sources → AreasApart → ℕ → AreasApart
handed_over bytes route sources areas m = replaced areas (sender_at (recipe bytes route) m) (hands_over bytes route sources areas m).after

-- at its taker's: words and status 1 are copied there, then the same call
abbrev pub takes_in : List ℕ → ℕ → Sources → AreasApart → ℕ → List ℕ → Answered State
takes_in bytes route sources areas m ws =
    deliver_call bytes route (sources (taker_at (recipe bytes route) m))
    (copied (recipe bytes route) (areas (taker_at (recipe bytes route) m)) m ws) m

abbrev pub taken_in : List ℕ → ℕ → Sources → AreasApart → ℕ → List ℕ → AreasApart
taken_in bytes route sources areas m ws = replaced areas (taker_at (recipe bytes route) m) (takes_in bytes route sources areas m ws).after

-- ---- delivery as one event: the sender's call, and where it gave 0 and the taker is another processor, the taker's on the words in the sender's place
unfoldable pub deliver_by_calls : List ℕ → ℕ → Sources → AreasApart → ℕ → Answered AreasApart
deliver_by_calls bytes route sources areas m =
    pick (ltb m (count (recipe bytes route)))
    (record {
      number = (hands_over bytes route sources areas m).number;
      after = pick (eqb (hands_over bytes route sources areas m).number 0 and not (eqb (sender_at (recipe bytes route) m) (taker_at (recipe bytes route) m)))
          (taken_in bytes route sources (handed_over bytes route sources areas m) m
          (place_of (recipe bytes route) (areas (sender_at (recipe bytes route) m)).buffer m))
          (handed_over bytes route sources areas m);
    })
    (record { number = 11; after = areas })

unfoldable pub calls_apart : List ℕ → ℕ → Sources → AreasApart → Event → Answered AreasApart
calls_apart bytes route sources areas (turn_of b) = turn_by_call bytes route sources areas b
calls_apart bytes route sources areas (delivery_of m) = deliver_by_calls bytes route sources areas m

-- ---- delivery as two: a post is the sender's call, and where it gave 0 the message's words as they then are, if it goes to another processor
unfoldable pub post_by_call : List ℕ → ℕ → Sources → Network → ℕ → Answered Network
post_by_call bytes route sources n m =
    pick (ltb m (count (recipe bytes route)))
    (record {
      number = (hands_over bytes route sources n.areas m).number;
      after = network_of (handed_over bytes route sources n.areas m)
          (n.packets ++ pick (eqb (hands_over bytes route sources n.areas m).number 0) (posted (recipe bytes route) n.areas m) []);
    })
    (record { number = 11; after = n })

-- an arrival is the taker's call on the packet's words, where its message has status 0 there
unfoldable pub arrive_by_call : List ℕ → ℕ → Sources → Network → ℕ → Answered Network
arrive_by_call bytes route sources n k =
    pick (eqb (first_of (arrival_lines (recipe bytes route) n k)) 0)
    (record {
      number = (takes_in bytes route sources n.areas (packet_at n.packets k).message (packet_at n.packets k).words).number;
      after = network_of (taken_in bytes route sources n.areas (packet_at n.packets k).message (packet_at n.packets k).words) n.packets;
    })
    (record { number = first_of (arrival_lines (recipe bytes route) n k); after = n })

unfoldable pub calls_network : List ℕ → ℕ → Sources → Network → NetworkEvent → Answered Network
calls_network bytes route sources n (turn_by b) =
    record {
      number = (turn_by_call bytes route sources n.areas b).number;
      after = network_of (turn_by_call bytes route sources n.areas b).after n.packets;
    }
calls_network bytes route sources n (post_of m) = post_by_call bytes route sources n m
calls_network bytes route sources n (arrival_of k) = arrive_by_call bytes route sources n k

abbrev pub start_network_calls : List ℕ → ℕ → Sources → AreasApart → Network
start_network_calls bytes route sources lent = network_of (start_calls bytes route sources lent) []
