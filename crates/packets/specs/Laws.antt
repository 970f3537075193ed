-- Read this.
-- What is proved of packets, for every byte string. `f` and `n` are the fingerprint and the run that are read for.
use Rattle.std.specs.Prelude.{ℕ, ◌^◌, ◌≤◌, ◌<◌, ◌≡◌, List, ◌++◌, length, drop}
use Rattle.base.specs.Lists.{Bytes}
use Rattle.packets.specs.Bits.{Burst, ByteChange}
use Rattle.packets.specs.Fingerprint.{fingerprint_of}
use Rattle.packets.specs.Packet.{packet_length, Fit, encode_packet, packet, refused, decode_packet}
use Rattle.packets.specs.Calls.{write_call, read_call}
use Rattle.packets.specs.declared.Header.{Header}

-- bytes p are accepted as a packet: they are its encoding byte for byte, and it is of this recipe, route and run
pub record Accepted (f n : ℕ) (p : List ℕ) (h : Header) (ws : List ℕ) : Type 0 where
  pub fit : Fit h ws
  pub bytes : p ≡ encode_packet h ws
  pub fingerprint : h.fingerprint ≡ f
  pub run : h.run ≡ n

-- what bytes can be
pub data Ways (f n : ℕ) (p : List ℕ) : Type 0 where
  accepted : (h : Header) (ws : List ℕ) → decode_packet f n p ≡ packet h ws → Accepted f n p h ws → Ways f n p
  damaged_26 : decode_packet f n p ≡ refused 26 → Ways f n p
  stale_27 : decode_packet f n p ≡ refused 27 → Ways f n p

pub record PacketsHold : Type 0 where
  -- every byte string is one packet of this recipe, route and run, or is refused as damaged or as stale
  pub ways : (f n : ℕ) (p : List ℕ) → Bytes p → Ways f n p
  -- what is accepted is the encoding of what it is decoded to
  pub exact : (f n : ℕ) (p : List ℕ) (h : Header) (ws : List ℕ) → Bytes p → decode_packet f n p ≡ packet h ws → Accepted f n p h ws
  -- what was encoded is decoded again; for another recipe, route or run it is stale
  pub again : (h : Header) (ws : List ℕ) → Fit h ws → decode_packet h.fingerprint h.run (encode_packet h ws) ≡ packet h ws
  pub other : (h : Header) (ws : List ℕ) → Fit h ws → (f n : ℕ) → ((h.fingerprint ≡ f) × (h.run ≡ n) → ⊥)
      → decode_packet f n (encode_packet h ws) ≡ refused 27
  -- two packets never have the same bytes
  pub one : (h g : Header) (ws vs : List ℕ) → Fit h ws → Fit g vs → encode_packet h ws ≡ encode_packet g vs → (h ≡ g) × (ws ≡ vs)
  -- they are bytes, and at most 1,200
  pub bytes : (h : Header) (ws : List ℕ) → Bytes (encode_packet h ws)
  pub long : (h : Header) (ws : List ℕ) → length (encode_packet h ws) ≡ packet_length (length ws)
  pub short : (h : Header) (ws : List ℕ) → Fit h ws → length (encode_packet h ws) ≤ 1200
  -- a packet that was changed on its way within 32 neighbouring bits, wherever, is damaged; so is one with one byte changed
  pub burst : (f n : ℕ) (h : Header) (ws q : List ℕ) → Fit h ws → Bytes q → Burst (encode_packet h ws) q → decode_packet f n q ≡ refused 26
  pub byte : (f n : ℕ) (h : Header) (ws q : List ℕ) → Fit h ws → Bytes q → ByteChange (encode_packet h ws) q → decode_packet f n q ≡ refused 26
  -- by the calls: what was written is read
  pub written_read : (h : Header) (ws space area : List ℕ) → Fit h ws → length space ≡ packet_length (length ws) → length ws ≤ length area
      → read_call h.fingerprint h.run (write_call h ws space).space area
      ≡ record { number = 0; header = h; count = length ws; words = ws ++ drop (length ws) area }
  -- a fingerprint has 64 bits, and tells two routes of one recipe apart
  pub marked : (recipe : List ℕ) (route : ℕ) → Bytes recipe → fingerprint_of recipe route < 2 ^ 64
  pub routes : (recipe : List ℕ) (a b : ℕ) → Bytes recipe → a < 2 ^ 32 → b < 2 ^ 32 → fingerprint_of recipe a ≡ fingerprint_of recipe b → a ≡ b
