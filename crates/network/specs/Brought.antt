-- Read this. Boards that share nothing, driven by calls: every event is one call on one board's own areas, and what arrives names its board, rightly or
-- wrongly. What is assumed of a transport is here, in full. Renders document 01, "The machine" and "Runs", for processors that share no memory.
use Rattle.std.specs.Prelude.{ℕ, ◌<◌, ◌≡◌, Bool, List, [], ◌∷◌, ◌++◌, length, get_or, ltb, eqb}
use Rattle.base.specs.Tests.{◌and◌, ◌or◌, not, pick}
use Rattle.base.specs.Numbers.{Line, line, first_of}
use Rattle.machine.specs.Plan.{Plan, count, held_by}
use Rattle.machine.specs.Machine.{State, place_of, fit, Answered, answered, turn, deliver}
use Rattle.machine.specs.Runs.{state_after}
use Rattle.network.specs.Apart.{taker_at, replaced, received}
use Rattle.network.specs.Packets.{Packet, packet_at, Network, network_of}

-- ---- events, each of which is a call

-- board b takes a turn; it hands message m over to the transport; a message's number and words are brought to it
pub data BoardEvent : Type 0 where
  turn_at : ℕ → BoardEvent
  post_at : ℕ → ℕ → BoardEvent
  brought_to : ℕ → ℕ → List ℕ → BoardEvent

-- the calls by which boards are driven, each by the board's number and on that board's own areas alone: the machine's, or those on a recipe's bytes
pub record BoardCalls : Type 0 where
  pub turns : ℕ → State → Answered State
  pub posts : ℕ → State → ℕ → Answered State
  pub reads : ℕ → State → ℕ → List ℕ  -- the words that lie there for message m, which the transport reads when its post gave 0
  pub accepts : ℕ → State → ℕ → List ℕ → Answered State

-- board b's areas as its call left them, every other board's as they were
abbrev pub called_at : Network → ℕ → Answered State → List Packet → Answered Network
called_at n b a packets = record { number = a.number; after = network_of (replaced n.areas b a.after) packets }

-- so many boards; one of another number is none, and has 11. A post that gave 0 is one packet more; nothing else is ever posted
unfoldable pub act_boards : ℕ → BoardCalls → Network → BoardEvent → Answered Network
act_boards boards calls n (turn_at b) =
    pick (ltb b boards) (called_at n b (calls.turns b (n.areas b)) n.packets) (record { number = 11; after = n })
act_boards boards calls n (post_at b m) =
    pick (ltb b boards)
    (called_at n b (calls.posts b (n.areas b) m)
    (n.packets ++ pick (eqb (calls.posts b (n.areas b) m).number 0) (record { message = m; words = calls.reads b (n.areas b) m } ∷ []) []))
    (record { number = 11; after = n })
act_boards boards calls n (brought_to b m ws) =
    pick (ltb b boards) (called_at n b (calls.accepts b (n.areas b) m ws) n.packets) (record { number = 11; after = n })

-- ---- the machine's: its turn, its delivery, and taking a message in

-- a message of this number is taken by board b; where there is such a message, as many words came as it has
abbrev pub taken_by : Plan → ℕ → ℕ → Bool
taken_by p b m = ltb m (count p) and eqb (taker_at p m) b

abbrev pub as_long : Plan → ℕ → List ℕ → Bool
as_long p m ws = not (ltb m (count p)) or eqb (length ws) (length (held_by p m))

-- 11 where another board takes it, or there is none such; 14 where it came before
abbrev pub take_in_lines : Plan → State → ℕ → ℕ → List ℕ → List Line
take_in_lines p s b m ws =
    line 9 (not (as_long p m ws))
    ∷ line 10 (not (fit p s)) ∷ line 11 (not (taken_by p b m)) ∷ line 14 (not (eqb (get_or s.status m 0) 0)) ∷ []

unfoldable pub take_in : Plan → State → ℕ → ℕ → List ℕ → Answered State
take_in p s b m ws = answered (first_of (take_in_lines p s b m ws)) (received p s m ws) s

abbrev pub machine_calls : Plan → List ℕ → BoardCalls
machine_calls p source =
    record {
      turns = λ b s. turn p source s b;
      posts = λ b s m. deliver p s m;
      reads = λ b s m. place_of p s.buffer m;
      accepts = λ b s m ws. take_in p s b m ws;
    }

abbrev pub machine_boards : Plan → List ℕ → Network → BoardEvent → Answered Network
machine_boards p source = act_boards p.processors (machine_calls p source)

-- ---- what is assumed of a transport, and all that is

-- such a message is among the packets posted so far, number and words unharmed
pub record WasPosted (packets : List Packet) (m : ℕ) (ws : List ℕ) : Type 0 where
  pub at : ℕ
  pub low : at < length packets
  pub number : (packet_at packets at).message ≡ m
  pub words : (packet_at packets at).words ≡ ws

-- 1. What arrives was posted in this run, and its number and words are unharmed. To which board it is brought, how late, in which order, how often, or
--    whether at all, nothing is assumed of.
-- 2. A board's calls come one at a time: a run is a list, and each event is given the areas as the last left them. Events of different boards work on
--    different areas, so nothing is assumed of their order.
pub record Carries (acts : Network → BoardEvent → Answered Network) (start : Network) (events : List BoardEvent) : Type 0 where
  pub posted : (before after : List BoardEvent) (b m : ℕ) (ws : List ℕ) → events ≡ before ++ (brought_to b m ws ∷ after)
      → WasPosted (state_after acts start before).packets m ws
