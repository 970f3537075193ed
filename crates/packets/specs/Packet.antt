-- Read this.
-- A packet: the bytes of one datagram. It has words of 32 bits, each with its low byte first:
--
--   0       the bytes "RWP1"; the last of them is the format's version
--   1, 2    fingerprint of recipe and route (specs/Fingerprint.antt), low word first
--   3, 4    the run's number, low word first
--   5, 6    the life of the board that sent it, low word first: a number that a board takes at each of its starts
--   7       its kind: 1 a chunk of a message; all others are the program's own
--   8, 9    sender and taker
--   10      the item: the message's number, or what a kind of the program's own numbers
--   11, 12  chunk, and chunks in all
--   13      how many words it brings, at most 285
--   14 ..   these words
--   last    the check word, CRC-32 of all bytes before it
--
-- So it has at most 1,200 bytes. A program with a key has 32 bytes more for its tag: 1,232 go unbroken over every network that carries IPv6.
-- Every byte string is exactly one packet, or is refused: 26 damaged, 27 stale; the first true line counts. What a life, a kind, a sender, a taker, an
-- item or a chunk has to be is not asked here.
use Rattle.std.specs.Prelude.{ℕ, zero, suc, ◌+◌, ◌*◌, ◌/◌, ◌%◌, ◌^◌, ◌≤◌, ◌<◌, Bool, List, [], ◌∷◌, ◌++◌, length, get_or, take, eqb, ltb}
use Rattle.base.specs.Tests.{◌or◌, not, tabulate}
use Rattle.base.specs.Bytes.{word}
use Rattle.base.specs.Numbers.{Line, line, first_of}
use Rattle.packets.specs.Crc.{crc32}
use Rattle.packets.specs.declared.Header.{Header}

-- the bytes "RWP1"
abbrev pub magic : ℕ
magic = 0x31505752

-- words of one packet
abbrev pub most_words : ℕ
most_words = 285

-- bytes of a packet that brings n words
abbrev pub packet_length : ℕ → ℕ
packet_length n = 4 * (15 + n)

-- ---- to bytes

-- a list of words
abbrev pub Words : List ℕ → Type 0
Words l = (i : ℕ) → get_or l i 0 < 2 ^ 32

-- a word's four bytes
unfoldable pub word_bytes : ℕ → List ℕ
word_bytes w = w % 256 ∷ w / 256 % 256 ∷ w / 65536 % 256 ∷ w / 16777216 % 256 ∷ []

unfoldable pub words_bytes : List ℕ → List ℕ
words_bytes [] = []
words_bytes (w ∷ ws) = word_bytes w ++ words_bytes ws

-- what fits a packet: numbers of 64 and of 32 bits, and no more words than one packet brings
pub record Fit (h : Header) (ws : List ℕ) : Type 0 where
  pub fingerprint : h.fingerprint < 2 ^ 64
  pub run : h.run < 2 ^ 64
  pub life : h.life < 2 ^ 64
  pub kind : h.kind < 2 ^ 32
  pub sender : h.sender < 2 ^ 32
  pub taker : h.taker < 2 ^ 32
  pub item : h.item < 2 ^ 32
  pub chunk : h.chunk < 2 ^ 32
  pub chunks : h.chunks < 2 ^ 32
  pub count : length ws ≤ most_words
  pub words : Words ws

-- the header of a packet that brings n words
abbrev pub head_words : Header → ℕ → List ℕ
head_words h n =
    magic
    ∷ h.fingerprint % 2 ^ 32 ∷ h.fingerprint / 2 ^ 32
    ∷ h.run % 2 ^ 32 ∷ h.run / 2 ^ 32
    ∷ h.life % 2 ^ 32 ∷ h.life / 2 ^ 32
    ∷ h.kind ∷ h.sender ∷ h.taker ∷ h.item ∷ h.chunk ∷ h.chunks ∷ n ∷ []

-- all but the check word
unfoldable pub body_of : Header → List ℕ → List ℕ
body_of h ws = words_bytes (head_words h (length ws) ++ ws)

unfoldable pub encode_packet : Header → List ℕ → List ℕ
encode_packet h ws = body_of h ws ++ word_bytes (crc32 (body_of h ws))

-- ---- and back

-- word i of a byte string, and words i and i + 1 as one number
unfoldable pub word_at : List ℕ → ℕ → ℕ
word_at p i = word p (4 * i)

unfoldable pub double_at : List ℕ → ℕ → ℕ
double_at p i = word_at p i + 2 ^ 32 * word_at p (i + 1)

abbrev pub count_of : List ℕ → ℕ
count_of p = word_at p 13

unfoldable pub header_of : List ℕ → Header
header_of p =
    record {
      fingerprint = double_at p 1;
      run = double_at p 3;
      life = double_at p 5;
      kind = word_at p 7;
      sender = word_at p 8;
      taker = word_at p 9;
      item = word_at p 10;
      chunk = word_at p 11;
      chunks = word_at p 12;
    }

unfoldable pub words_of : List ℕ → List ℕ
words_of p = tabulate (λ i. word_at p (14 + i)) (count_of p)

-- no packet that brings n words has m bytes
unfoldable pub unfit : ℕ → ℕ → Bool
unfit n m = ltb most_words n or not (eqb m (packet_length n))

-- too many words or another length than their count says, another first word, or another check word than that of what stands before it
unfoldable pub damaged : List ℕ → Bool
damaged p =
    unfit (count_of p) (length p)
    or (not (eqb (word_at p 0) magic)
    or not (eqb (word_at p (14 + count_of p)) (crc32 (take (4 * (14 + count_of p)) p))))

-- of another recipe or route, or of another run
unfoldable pub stale : ℕ → ℕ → List ℕ → Bool
stale fingerprint run p = not (eqb (double_at p 1) fingerprint) or not (eqb (double_at p 3) run)

abbrev pub decode_lines : ℕ → ℕ → List ℕ → List Line
decode_lines fingerprint run p = line 26 (damaged p) ∷ line 27 (stale fingerprint run p) ∷ []

pub data Decoded : Type 0 where
  packet : Header → List ℕ → Decoded
  refused : ℕ → Decoded

abbrev pub decoded_by : ℕ → List ℕ → Decoded
decoded_by zero p = packet (header_of p) (words_of p)
decoded_by (suc n) p = refused (suc n)

unfoldable pub decode_packet : ℕ → ℕ → List ℕ → Decoded
decode_packet fingerprint run p = decoded_by (first_of (decode_lines fingerprint run p)) p
