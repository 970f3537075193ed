-- Read this.
-- Runs of processors that each have their own part alone: the same answers, the same packets, and each has its part.
-- Renders document 01, "Runs", for boards whose memory grows with their own cells.
use Rattle.std.specs.Prelude.{ℕ, ◌<◌, ◌≡◌, List}
use Rattle.machine.specs.Plan.{Plan}
use Rattle.machine.specs.Machine.{Answered}
use Rattle.machine.specs.Runs.{last, answers}
use Rattle.network.specs.Apart.{collect_apart}
use Rattle.network.specs.Packets.{Packet, Network, network_of, NetworkEvent}
use Rattle.network.specs.Own.{Own, narrowed, widened}

-- each processor's part, and every packet ever posted
pub record PartNetwork : Type 0 where
  pub parts : ℕ → Own
  pub packets : List Packet

-- areas that have these parts; the parts of these areas
unfoldable pub wide_network : Plan → PartNetwork → Network
wide_network p n = network_of (λ b. widened p b (n.parts b)) n.packets

unfoldable pub part_network : Plan → Network → PartNetwork
part_network p n = record { parts = λ b. narrowed p b (n.areas b); packets = n.packets }

-- an event on the parts: what it gives and leaves on areas that have them. An event is a call on one processor's areas, so here on that one's part
unfoldable pub act_own : Plan → (Network → NetworkEvent → Answered Network) → PartNetwork → NetworkEvent → Answered PartNetwork
act_own p acts n e = record { number = (acts (wide_network p n) e).number; after = part_network p (acts (wide_network p n) e).after }

-- the claim about a list of events from `start`, beside a run of `acts` on whole areas
module _ (p : Plan) (acts : Network → NetworkEvent → Answered Network) (start : Network) (events : List NetworkEvent) where
  pub record PartRun : Type 0 where
    pub same_answers : answers (act_own p acts) (part_network p start) events ≡ answers acts start events
    pub same_packets : (last (act_own p acts) (part_network p start) events).packets ≡ (last acts start events).packets
    pub same_parts : (b : ℕ) → b < p.processors
        → (last (act_own p acts) (part_network p start) events).parts b ≡ narrowed p b ((last acts start events).areas b)
    -- so collecting from the parts gives what it gives from whole areas: the sequential sweep, once all steps are taken (ByPackets)
    pub same_collecting : (grid : List ℕ)
        → collect_apart p (wide_network p (last (act_own p acts) (part_network p start) events)).areas grid ≡ collect_apart p (last acts start events).areas grid
