-- Read this.
-- An item's way onto the wire, and a message's way onto it and from it. An item is a list of words, and a packet brings a chunk of it. A message's words are
-- sent out of its sender's buffer. Bytes as they came are put together at the message's taker's, and the message is taken in exactly when it is whole.
-- The packet is that of crates/packets/specs/Packet, the chunk that of crates/packets/specs/Cut. Numbers 26 and 27 are the product's own, the others
-- document 01's, "Numbers a call gives". At every refusal no lent word is changed.
use Rattle.std.specs.Prelude.{ℕ, ◌*◌, Bool, List, [], ◌∷◌, ◌++◌, length, drop, ◌==◌, nat_eq, nat_lt, slice_index, slice_set}
use Rattle.base.specs.Tests.{◌and◌, not, pick, one}
use Rattle.base.specs.Lists.{put}
use Rattle.base.specs.Numbers.{Line, line, first_of}
use Rattle.machine.specs.Plan.{Plan, count, words, held_by, offset}
use Rattle.machine.specs.Machine.{State, place_of, fit, Answered, answered}
use Rattle.network.specs.Apart.{sender_at, taker_at, received}
use Rattle.layout.specs.RouteWords.{route_of}
use Rattle.recipe.specs.Routes.{lines_for}
use Rattle.engine.specs.Calls.{recipe, areas}
use Rattle.packets.specs.declared.Header.{Header}
use Rattle.packets.specs.Fingerprint.{fingerprint_of}
use Rattle.packets.specs.Packet.{most_words, encode_packet, header_of, words_of, decode_lines}
use Rattle.packets.specs.Calls.{Read}
use Rattle.packets.specs.Cut.{most_chunks, chunks_of, chunk_of, cut, Assembly, assembly, complete, fits, placed}
use Rattle.wire.specs.declared.PacketLine.{PacketLine}

-- ---- an item as packets

-- what a packet says of the item, whatever the chunk
pub record Label : Type 0 where
  pub fingerprint : ℕ
  pub run : ℕ
  pub life : ℕ
  pub kind : ℕ
  pub sender : ℕ
  pub taker : ℕ
  pub item : ℕ

abbrev pub label : ℕ → ℕ → ℕ → ℕ → ℕ → ℕ → ℕ → Label
label f n life kind from to item =
    record { fingerprint = f; run = n; life = life; kind = kind; sender = from; taker = to; item = item }

-- and of its chunk k, where the item has n words
unfoldable pub headed : Label → ℕ → ℕ → Header
headed l k n =
    record {
      fingerprint = l.fingerprint;
      run = l.run;
      life = l.life;
      kind = l.kind;
      sender = l.sender;
      taker = l.taker;
      item = l.item;
      chunk = k;
      chunks = chunks_of n;
    }

unfoldable pub item_packet : Label → List ℕ → ℕ → List ℕ
item_packet l ws k = encode_packet (headed l k (length ws)) (cut ws k).words

-- a packet written into a space from its first byte on, and how many bytes it has; nothing is written, and 0 is told
pub record Letter : Type 0 where
  pub long : ℕ
  pub space : List ℕ

abbrev pub letter_of : ℕ → List ℕ → Letter
letter_of n space = record { long = n; space = space }

unfoldable pub letter : List ℕ → List ℕ → Letter
letter packet space = letter_of (length packet) (packet ++ drop (length packet) space)

-- bytes of the longest packet: the length of every space
abbrev pub longest_packet : ℕ
longest_packet = 1200

-- 9 a space of another length, 9 more than 64 chunks, 11 no such chunk
abbrev pub packet_lines : List ℕ → ℕ → List ℕ → List Line
packet_lines ws k space =
    line 9 (not (length space == longest_packet))
    ∷ line 9 (nat_lt (most_chunks * most_words) (length ws))
    ∷ line 11 (not (nat_lt k (chunks_of (length ws)))) ∷ []

unfoldable pub packet_call : Label → List ℕ → ℕ → List ℕ → Answered Letter
packet_call l ws k space = answered (first_of (packet_lines ws k space)) (letter (item_packet l ws k) space) (letter_of 0 space)

-- what is told of a packet that was read: crates/packets/specs/Calls has `read_call`
abbrev pub line_from : Read → PacketLine
line_from r =
    record {
      number = r.number;
      kind = r.header.kind;
      sender = r.header.sender;
      taker = r.header.taker;
      item = r.header.item;
      chunk = r.header.chunk;
      chunks = r.header.chunks;
      count = r.count;
      life = r.header.life;
    }

-- ---- a message onto the wire: kind 1, and the processors of its tiles

abbrev pub message_label : Plan → ℕ → ℕ → ℕ → ℕ → Label
message_label p fingerprint run life m = label fingerprint run life 1 (sender_at p m) (taker_at p m) m

unfoldable pub packet_of : Plan → ℕ → ℕ → ℕ → List ℕ → ℕ → ℕ → List ℕ
packet_of p fingerprint run life buffer m k = item_packet (message_label p fingerprint run life m) (place_of p buffer m) k

-- of buffer and space the lengths: 9 another length; 11 no such message, not one that processor b sends, no such chunk of it; 14 it is not posted here, so
-- that there is nothing to be posted again
abbrev pub send_lines : Plan → ℕ → List ℕ → ℕ → ℕ → ℕ → ℕ → List Line
send_lines p buffer status b m k space =
    line 9 (not (buffer == words p))
    ∷ line 9 (not (length status == count p))
    ∷ line 9 (not (space == longest_packet))
    ∷ line 11 (not (nat_lt m (count p)))
    ∷ line 11 (not (sender_at p m == b))
    ∷ line 11 (not (nat_lt k (chunks_of (length (held_by p m)))))
    ∷ line 14 (nat_lt (slice_index status m) 2) ∷ []

-- past the recipe's lines
abbrev pub sent_or : Plan → ℕ → ℕ → ℕ → List ℕ → List ℕ → ℕ → ℕ → ℕ → List ℕ → Answered Letter
sent_or p fingerprint run life buffer status b m k space =
    answered (first_of (send_lines p (length buffer) status b m k (length space))) (letter (packet_of p fingerprint run life buffer m k) space)
    (letter_of 0 space)

unfoldable pub send_call : List ℕ → ℕ → ℕ → ℕ → List ℕ → List ℕ → ℕ → ℕ → ℕ → List ℕ → Answered Letter
send_call bytes route run life buffer status b m k space =
    answered (first_of (lines_for (route_of route) bytes ++ send_lines (recipe bytes route) (length buffer) status b m k (length space)))
    (letter (packet_of (recipe bytes route) (fingerprint_of bytes route) run life buffer m k) space) (letter_of 0 space)

-- ---- a message from the wire: bytes as they came, at its taker's, whose own areas are lent with what came so far

-- what came so far of all messages: words at the places that they have in the buffer, and a mask for each message
pub record Inbox : Type 0 where
  pub parts : List ℕ
  pub masks : List ℕ

abbrev pub inbox_of : List ℕ → List ℕ → Inbox
inbox_of parts masks = record { parts = parts; masks = masks }

-- of message m; and it is now a
unfoldable pub came_of : Plan → Inbox → ℕ → Assembly
came_of p i m = assembly (place_of p i.parts m) (slice_index i.masks m)

abbrev pub with_came : Plan → Inbox → ℕ → Assembly → Inbox
with_came p i m a = inbox_of (put i.parts (offset p.messages m) a.area) (slice_set i.masks m a.mask)

unfoldable pub inbox_fits : Plan → Inbox → Bool
inbox_fits p i = nat_eq (length i.parts) (words p) and nat_eq (length i.masks) (count p)

-- 11 another kind, no such message, another sender or taker than the message's, a message that processor b does not take, no such chunk of it;
-- 14 it came before
abbrev pub address_lines : Plan → List ℕ → ℕ → Header → List ℕ → List Line
address_lines p status b h ws =
    line 11 (not (h.kind == 1))
    ∷ line 11 (not (nat_lt h.item (count p)))
    ∷ line 11 (not (h.sender == sender_at p h.item))
    ∷ line 11 (not (h.taker == taker_at p h.item))
    ∷ line 11 (not (taker_at p h.item == b))
    ∷ line 11 (not (fits (length (held_by p h.item)) (chunk_of h.chunk h.chunks ws)))
    ∷ line 14 (not (slice_index status h.item == 0)) ∷ []

-- whether a message is whole now (1), and which; what came so far, and the areas
pub record Received : Type 0 where
  pub whole : ℕ
  pub message : ℕ
  pub inbox : Inbox
  pub state : State

abbrev pub received_as : ℕ → ℕ → Inbox → State → Received
received_as w m i s = record { whole = w; message = m; inbox = i; state = s }

-- message m, of which `a` is there now, and which so is whole or not
unfoldable pub came_now : Plan → State → Inbox → ℕ → Assembly → Bool → Received
came_now p s i m a w = received_as (one w) m (with_came p i m a) (pick w (received p s m a.area) s)

-- the chunk that a packet brings is put to what came of its message
abbrev pub came_with : Plan → Inbox → Header → List ℕ → Assembly
came_with p i h ws = placed h.chunk ws (came_of p i h.item)

unfoldable pub taken_packet : Plan → State → Inbox → Header → List ℕ → Received
taken_packet p s i h ws = came_now p s i h.item (came_with p i h ws) (complete h.chunks (came_with p i h ws).mask)

-- the recipe's lines; 26 damaged, 27 of another recipe, route or run; 9 and 10 the areas; then those of the packet
abbrev pub receive_lines : List ℕ → ℕ → ℕ → List ℕ → State → ℕ → List ℕ → Inbox → List Line
receive_lines bytes route run source s b q i =
    lines_for (route_of route) bytes
    ++ (decode_lines (fingerprint_of bytes route) run q
    ++ (line 9 (not (inbox_fits (recipe bytes route) i))
    ∷ line 9 (not (areas (recipe bytes route) source s))
    ∷ line 10 (not (fit (recipe bytes route) s))
    ∷ address_lines (recipe bytes route) s.status b (header_of q) (words_of q)))

unfoldable pub receive_call : List ℕ → ℕ → ℕ → List ℕ → State → ℕ → List ℕ → Inbox → Answered Received
receive_call bytes route run source s b q i =
    answered (first_of (receive_lines bytes route run source s b q i)) (taken_packet (recipe bytes route) s i (header_of q) (words_of q)) (received_as 0 0 i s)
