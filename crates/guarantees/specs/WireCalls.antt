-- Read this.
-- The calls between the areas of a run and the wire as exported: each gives the number of the first true line, does its work where that is 0, and else
-- leaves every lent word, and the very records. Renders document 01, "Numbers a call gives"; numbers 26 and 27 are the product's own.
use Rattle.std.specs.Prelude.{ℕ, ◌≡◌, ◌≢◌, List, ◌++◌, length}
use Rattle.base.specs.Numbers.{first_of}
use Rattle.layout.specs.RouteWords.{route_of}
use Rattle.recipe.specs.Routes.{lines_for}
use Rattle.engine.specs.Calls.{answer, recipe}
use Rattle.engine.specs.Demands.{Fixed}
use Rattle.packets.specs.declared.chunks.Taken.{Taken}
use Rattle.packets.specs.Fingerprint.{fingerprint_of}
use Rattle.packets.specs.Packet.{header_of, words_of}
use Rattle.packets.specs.Calls as packets
use Rattle.packets.specs.Cut.{Chunk}
use Rattle.wire.specs.declared.Written.{Written}
use Rattle.wire.specs.declared.PacketLine.{PacketLine}
use Rattle.wire.specs.declared.inbox.Received as declared
use Rattle.wire.specs.Wire.{Label, letter_of, letter, item_packet, packet_lines, packet_of, send_lines, Inbox, received_as, taken_packet, receive_lines}
use Rattle.calls.specs.Gave.{Areas, in_words, PacketGave, PacketReadGave, ChunkGave, SendGave, ReceiveGave}

-- a packet of any kind
pub record FixedPackets : Type 0 where
  pub packet : (l : Label) (words : List ℕ) (k : ℕ) (old space : List ℕ) (w : Written) → PacketGave l words k old w space
      → Fixed (answer w.number (letter_of w.length space)) (packet_lines words k old) (letter (item_packet l words k) old) (letter_of 0 old)
  pub read : (f run : ℕ) (q old words : List ℕ) (line : PacketLine) → PacketReadGave f run q old line words
      → line.number ≡ first_of (packets.read_lines f run q (length old))
  pub read_before : (f run : ℕ) (q old words : List ℕ) (line : PacketLine) → PacketReadGave f run q old line words → line.number ≢ 0 → words ≡ old
  pub chunk_before : (c : Chunk) (old area : List ℕ) (mask : ℕ) (t : Taken) → ChunkGave c old mask t area → t.number ≢ 0
      → (area ≡ old) × (t.mask ≡ mask)

-- a message's
pub record FixedWire (bytes : List ℕ) (route run : ℕ) : Type 0 where
  pub send : (life : ℕ) (buffer status : List ℕ) (p m k : ℕ) (old space : List ℕ) (w : Written)
      → SendGave bytes route run life buffer status p m k old w space
      → Fixed (answer w.number (letter_of w.length space))
      (lines_for (route_of route) bytes ++ send_lines (recipe bytes route) (length buffer) status p m k (length old))
      (letter (packet_of (recipe bytes route) (fingerprint_of bytes route) run life buffer m k) old) (letter_of 0 old)
  pub receive : (source : List ℕ) (a b : Areas) (p : ℕ) (q : List ℕ) (i j : Inbox) (r : declared.Received)
      → ReceiveGave bytes route run source a p q i r j b
      → Fixed (answer r.number (received_as r.whole r.message j (in_words b))) (receive_lines bytes route run source (in_words a) p q i)
      (taken_packet (recipe bytes route) (in_words a) i (header_of q) (words_of q)) (received_as 0 0 i (in_words a))
  pub receive_before : (source : List ℕ) (a b : Areas) (p : ℕ) (q : List ℕ) (i j : Inbox) (r : declared.Received)
      → ReceiveGave bytes route run source a p q i r j b → r.number ≢ 0 → (j ≡ i) × (b ≡ a)
