-- Each call between areas and wire gives its first true line.
use Prim.Native.Nat.{ℕ, zero, suc}
use mathlib.Core.Path.{◌≡◌, refl, sym, ap, ◌∙◌}
use mathlib.Core.Logic.{◌≢◌}
use mathlib.Core.List.{List, ◌++◌}
use lib.ListN.{length}
use Rattle.base.specs.Numbers.{first_of}
use Rattle.layout.specs.RouteWords.{route_of}
use Rattle.recipe.specs.Routes.{lines_for}
use Rattle.machine.specs.Machine.{Answered}
use Rattle.engine.specs.Calls.{answer, recipe}
use Rattle.engine.specs.Demands.{Fixed}
use Rattle.engine.proofs.Demands as engine
use Rattle.packets.specs.declared.chunks.Taken.{Taken}
use Rattle.packets.specs.Fingerprint.{fingerprint_of}
use Rattle.packets.specs.Packet.{header_of, words_of}
use Rattle.packets.specs.Calls as packets
use Rattle.packets.specs.Cut.{Chunk, assembly, Assembly, Taking, take_chunk_call}
use Rattle.packets.proofs.Assembling.{chunks_hold}
use Rattle.wire.specs.declared.PacketLine.{PacketLine}
use Rattle.wire.specs.Wire.{letter_of, letter, item_packet, packet_lines, packet_call, packet_of, send_lines, send_call, Inbox, Received, received_as, taken_packet}
use Rattle.wire.specs.Wire.{receive_lines, receive_call}
use Rattle.calls.specs.Gave.{Areas, in_words, PacketReadGave, ChunkGave, ReceiveGave}
use Rattle.guarantees.specs.WireCalls.{FixedPackets, FixedWire}
use Rattle.guarantees.proofs.OverRecords.{fixed_as, areas_fixed}
use Rattle.wire.proofs.Receiving.{read_number}

read_first : (f run : ℕ) (q old words : List ℕ) (line : PacketLine) → PacketReadGave f run q old line words
    → line.number ≡ first_of (packets.read_lines f run q (length old))
unfolding packets.read_call
read_first f run q old words line e = ap (λ (l : PacketLine). l.number) e.0 ∙ read_number (first_of (packets.read_lines f run q (length old))) q old

read_before : (f run : ℕ) (q old words : List ℕ) (line : PacketLine) → PacketReadGave f run q old line words → line.number ≢ 0 → words ≡ old
unfolding packets.read_call
read_before f run q old words line e h =
    e.1 ∙ go (first_of (packets.read_lines f run q (length old))) (λ z. h (read_first f run q old words line e ∙ z))
  where
    go : (n : ℕ) → n ≢ 0 → (packets.read_by n q old).words ≡ old
    go zero k = absurd (k refl)
    go (suc n) k = refl

chunk_before : (c : Chunk) (old area : List ℕ) (mask : ℕ) (t : Taken) → ChunkGave c old mask t area → t.number ≢ 0 → (area ≡ old) × (t.mask ≡ mask)
chunk_before c old area mask t e h =
    let same : (take_chunk_call c (assembly old mask)).after ≡ assembly old mask =
    chunks_hold.refused c (assembly old mask) (λ z. h (ap (λ (x : Taking). x.number) e ∙ z)) in (
      ap (λ (x : Taking). x.after.area) e ∙ ap (λ (a : Assembly). a.area) same,
      ap (λ (x : Taking). x.after.mask) e ∙ ap (λ (a : Assembly). a.mask) same,
    )

pub fixed_packets : FixedPackets
unfolding packet_call
fixed_packets =
    record {
      packet = λ l words k old space w e. fixed_as e (engine.fixed (packet_lines words k old) (letter (item_packet l words k) old) (letter_of 0 old));
      read = read_first;
      read_before = read_before;
      chunk_before = chunk_before;
    }

module _ (bytes : List ℕ) (route run : ℕ) where
  received_fixed : (source : List ℕ) (a : Areas) (p : ℕ) (q : List ℕ) (i : Inbox) → Fixed (receive_call bytes route run source (in_words a) p q i)
      (receive_lines bytes route run source (in_words a) p q i) (taken_packet (recipe bytes route) (in_words a) i (header_of q) (words_of q))
      (received_as 0 0 i (in_words a))
  unfolding receive_call
  received_fixed source a p q i =
      engine.fixed (receive_lines bytes route run source (in_words a) p q i) (taken_packet (recipe bytes route) (in_words a) i (header_of q) (words_of q))
      (received_as 0 0 i (in_words a))

  pub fixed_wire : FixedWire bytes route run
  unfolding send_call
  fixed_wire =
      record {
        send = λ life buffer status p m k old space w e. fixed_as e
            (engine.fixed (lines_for (route_of route) bytes ++ send_lines (recipe bytes route) (length buffer) status p m k (length old))
            (letter (packet_of (recipe bytes route) (fingerprint_of bytes route) run life buffer m k) old) (letter_of 0 old));
        receive = λ source a b p q i j r e. fixed_as e (received_fixed source a p q i);
        receive_before = λ source a b p q i j r e h.
            let same : received_as r.whole r.message j (in_words b) ≡ received_as 0 0 i (in_words a) =
            (fixed_as e (received_fixed source a p q i)).refuses h in
            (ap (λ (x : Received). x.inbox) same, areas_fixed b a (ap (λ (x : Received). x.state) same));
      }
