-- Read this.
-- CRC-32, bit by bit (IEEE 802.3: low bit first, polynomial 0x04C11DB7 written from its low end, the register started and ended by 0xFFFFFFFF).
-- Renders what "check word" means in a packet: specs/Packet.antt.
use Rattle.std.specs.Prelude.{ℕ, zero, suc, ◌*◌, ◌/◌, ◌%◌, ◌<◌, ◌≡◌, List, [], ◌∷◌, length, get_or}
use Rattle.std.specs.Int.Bits.{bit_xor}

-- one bit: the register moves down by one, and where a 1 falls out the polynomial is added
unfoldable pub shift : ℕ → ℕ
shift r = bit_xor (r / 2) (r % 2 * 0xEDB88320)

unfoldable pub shifts : ℕ → ℕ → ℕ
shifts zero r = r
shifts (suc n) r = shifts n (shift r)

-- one byte: added to the low bits, and eight shifts
unfoldable pub feed : ℕ → ℕ → ℕ
feed r b = shifts 8 (bit_xor r b)

unfoldable pub feed_all : ℕ → List ℕ → ℕ
feed_all r [] = r
feed_all r (b ∷ bs) = feed_all (feed r b) bs

unfoldable pub crc32 : List ℕ → ℕ
crc32 bs = bit_xor (feed_all 0xFFFFFFFF bs) 0xFFFFFFFF

-- ---- for a contract below the calls

-- a table of what eight shifts make of each byte
pub record Eights (table : List ℕ) : Type 0 where
  pub long : length table ≡ 256
  pub at : (k : ℕ) → k < 256 → get_or table k 0 ≡ shifts 8 k
