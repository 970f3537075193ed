-- Read this.
-- What is proved of sending and receiving together: a sent packet is received as the chunk that it is, of which crates/packets/specs/Cut says that a message's
-- chunks give the message; whatever is refused changes nothing.
use Rattle.std.specs.Prelude.{◌≡◌, ℕ, ◌^◌, ◌<◌, ◌≢◌, List, [], ◌∷◌, length, take, ◌==◌, slice_index}
use Rattle.base.specs.Tests.{not}
use Rattle.base.specs.Lists.{Bytes}
use Rattle.base.specs.Numbers.{Line, line, first_of}
use Rattle.machine.specs.Plan.{Plan, held_by}
use Rattle.machine.specs.Machine.{State, place_of, fit, Answered, answered}
use Rattle.network.specs.Apart.{taker_at}
use Rattle.layout.specs.RouteWords.{route_of}
use Rattle.recipe.specs.Routes.{lines_for}
use Rattle.engine.specs.Calls.{answer, recipe, areas}
use Rattle.packets.specs.Bits.{Burst}
use Rattle.packets.specs.Fingerprint.{fingerprint_of}
use Rattle.packets.specs.Packet.{Words, packet, refused, decode_packet}
use Rattle.packets.specs.Cut.{chunks_of, cut, complete, placed}
use Rattle.wire.specs.Wire.{headed, Letter, message_label, send_call, Inbox, came_of, inbox_fits, Received, received_as, came_now, receive_call}

-- `send` gave 0 for chunk k of message m, and was given what its types say: bytes, a run and a life of 64 bits, a number and words of 32
pub record Sent (bytes : List ℕ) (route run life : ℕ) (buffer status : List ℕ) (b m k : ℕ) (space : List ℕ) : Type 0 where
  pub done : (send_call bytes route run life buffer status b m k space).number ≡ 0
  pub small : Bytes bytes
  pub run_fits : run < 2 ^ 64
  pub life_fits : life < 2 ^ 64
  pub message_fits : m < 2 ^ 32
  pub words_fit : Words buffer

-- what then goes onto the wire
abbrev pub sent_bytes : Answered Letter → List ℕ
sent_bytes a = take a.after.long a.after.space

-- 9 and 10 the taker's areas; 11 it is not processor c that takes message m; 14 it came before
abbrev pub arrival_lines : Plan → List ℕ → State → ℕ → ℕ → Inbox → List Line
arrival_lines p source s c m i =
    line 9 (not (inbox_fits p i))
    ∷ line 9 (not (areas p source s))
    ∷ line 10 (not (fit p s))
    ∷ line 11 (not (taker_at p m == c))
    ∷ line 14 (not (slice_index s.status m == 0)) ∷ []

-- chunk k of these words of message m came
abbrev pub chunk_came : Plan → State → Inbox → ℕ → List ℕ → ℕ → Received
chunk_came p s i m ws k =
    came_now p s i m (placed k (cut ws k).words (came_of p i m)) (complete (chunks_of (length (held_by p m))) (placed k (cut ws k).words (came_of p i m)).mask)

pub record WireHolds : Type 0 where
  -- a sent packet is one packet of this recipe, route and run: chunk k of the words that stood in the sender's buffer
  pub decoded : (bytes : List ℕ) (route run life : ℕ) (buffer status : List ℕ) (b m k : ℕ) (space : List ℕ)
      → Sent bytes route run life buffer status b m k space
      → decode_packet (fingerprint_of bytes route) run (sent_bytes (send_call bytes route run life buffer status b m k space))
      ≡ packet (headed (message_label (recipe bytes route) (fingerprint_of bytes route) run life m) k (length (held_by (recipe bytes route) m)))
      (cut (place_of (recipe bytes route) buffer m) k).words
  -- received by whomever, it is this chunk of that message for its taker, and 11 for every other
  pub carried : (bytes : List ℕ) (route run life : ℕ) (buffer status : List ℕ) (b m k : ℕ) (space : List ℕ)
      → Sent bytes route run life buffer status b m k space
      → (source : List ℕ) (s : State) (c : ℕ) (i : Inbox)
      → receive_call bytes route run source s c (sent_bytes (send_call bytes route run life buffer status b m k space)) i
      ≡ answered (first_of (arrival_lines (recipe bytes route) source s c m i))
      (chunk_came (recipe bytes route) s i m (place_of (recipe bytes route) buffer m) k) (received_as 0 0 i s)
  -- whatever is refused changes nothing
  pub refusal : (bytes : List ℕ) (route run : ℕ) (source : List ℕ) (s : State) (b : ℕ) (q : List ℕ) (i : Inbox)
      → (receive_call bytes route run source s b q i).number ≢ 0 → (receive_call bytes route run source s b q i).after ≡ received_as 0 0 i s
  -- damaged and stale bytes are, with the number that decoding gives
  pub turned_away : (bytes : List ℕ) (route run : ℕ) (source : List ℕ) (s : State) (b : ℕ) (q : List ℕ) (i : Inbox) (n : ℕ)
      → first_of (lines_for (route_of route) bytes) ≡ 0 → decode_packet (fingerprint_of bytes route) run q ≡ refused n
      → receive_call bytes route run source s b q i ≡ answer n (received_as 0 0 i s)
  -- so is a sent packet that was changed on its way within 32 neighbouring bits
  pub burst : (bytes : List ℕ) (route run life : ℕ) (buffer status : List ℕ) (b m k : ℕ) (space : List ℕ)
      → Sent bytes route run life buffer status b m k space
      → (source : List ℕ) (s : State) (c : ℕ) (q : List ℕ) (i : Inbox) → Bytes q
      → Burst (sent_bytes (send_call bytes route run life buffer status b m k space)) q
      → receive_call bytes route run source s c q i ≡ answer 26 (received_as 0 0 i s)
