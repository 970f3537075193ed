-- Read this.
-- Messages in chunks. What one packet can't bring is cut into pieces of 285 words, at most 64 of them. Where it is taken it is put together in an area of the
-- message's length, with a mask of 64 bits that tells which chunks are there.
-- 64 chunks have 18,240 words: more than a message or a processor's part of any recipe, whose cells are at most 16,384.
use Rattle.std.specs.Prelude.{ℕ, zero, suc, ◌-◌, ◌*◌, ◌/◌, ◌%◌, ◌^◌, ◌≤◌, ◌<◌, min, ◌≡◌, ◌⊎◌, Bool, true, false, List, [], ◌∷◌, length, eqb, ltb}
use Rattle.std.specs.Int.Bits.{bit_or}
use Rattle.base.specs.Tests.{◌and◌, not, pick, one, every}
use Rattle.base.specs.Lists.{sublist, put}
use Rattle.base.specs.Numbers.{Line, line, first_of}
use Rattle.packets.specs.Packet.{most_words}
use Rattle.packets.specs.declared.chunks.Taken.{Taken}

-- as many as a mask has bits
abbrev pub most_chunks : ℕ
most_chunks = 64

-- how many chunks n words have: one at least, so that there is a packet of a message without words too
unfoldable pub chunks_of : ℕ → ℕ
chunks_of n = suc ((n - 1) / most_words)

-- a chunk as a packet brings it
pub record Chunk : Type 0 where
  pub chunk : ℕ
  pub chunks : ℕ
  pub words : List ℕ

abbrev pub chunk_of : ℕ → ℕ → List ℕ → Chunk
chunk_of k n ws = record { chunk = k; chunks = n; words = ws }

-- chunk k of a message: 285 words, or those that are left
unfoldable pub cut : List ℕ → ℕ → Chunk
cut ws k = chunk_of k (chunks_of (length ws)) (sublist ws (k * most_words) most_words)

-- ---- what is there

pub record Assembly : Type 0 where
  pub area : List ℕ
  pub mask : ℕ

abbrev pub assembly : List ℕ → ℕ → Assembly
assembly area mask = record { area = area; mask = mask }

-- bit k of the mask
unfoldable pub there : ℕ → ℕ → Bool
there mask k = eqb (mask / 2 ^ k % 2) 1

-- all bits below n
unfoldable pub complete : ℕ → ℕ → Bool
complete n mask = every (there mask) n

-- ---- taking in

-- how many words chunk k of n words has
abbrev pub chunk_length : ℕ → ℕ → ℕ
chunk_length n k = min most_words (n - k * most_words)

-- c is a chunk of a message of n words
unfoldable pub fits : ℕ → Chunk → Bool
fits n c =
    eqb c.chunks (chunks_of n) and (ltb c.chunk (chunks_of n) and eqb (length c.words) (chunk_length n c.chunk))

-- words of chunk k to their place, and its bit set; a chunk that is there already changes nothing, whatever its words
unfoldable pub placed : ℕ → List ℕ → Assembly → Assembly
placed k ws a = pick (there a.mask k) a (assembly (put a.area (k * most_words) ws) (bit_or a.mask (2 ^ k)))

-- into an area of n words. 9: it has more than 64 chunks. 11, "no such": the message has no such chunk. That is not 27, stale: recipe, route and run are
-- those that were asked for, and they fix a message's chunks and the length of each; so the number is wrong, and not the run
abbrev pub take_lines : Chunk → ℕ → List Line
take_lines c n = line 9 (ltb (most_chunks * most_words) n) ∷ line 11 (not (fits n c)) ∷ []

-- a number, whether the message is whole now (1), and the assembly
pub record Taking : Type 0 where
  pub number : ℕ
  pub whole : ℕ
  pub after : Assembly

abbrev pub taking_by : ℕ → Chunk → Assembly → Taking
taking_by zero c a =
    record {
      number = 0;
      whole = one (complete c.chunks (placed c.chunk c.words a).mask);
      after = placed c.chunk c.words a;
    }
taking_by (suc n) c a = record { number = suc n; whole = 0; after = a }

unfoldable pub take_chunk_call : Chunk → Assembly → Taking
take_chunk_call c a = taking_by (first_of (take_lines c (length a.area))) c a

abbrev pub taking_of : Taken → List ℕ → Taking
taking_of r area = record { number = r.number; whole = r.whole; after = assembly area r.mask }

-- ---- what is claimed of it

-- one after the other
unfoldable pub take_all : List Chunk → Assembly → Assembly
take_all [] a = a
take_all (c ∷ cs) a = take_all cs (take_chunk_call c a).after

-- what can come for a message: its own chunks, and what does not fit it
pub data Comes (ws : List ℕ) (c : Chunk) : Type 0 where
  own : (k : ℕ) → c ≡ cut ws k → Comes ws c
  misfit : fits (length ws) c ≡ false → Comes ws c

abbrev pub AllCome : List ℕ → List Chunk → Type 0
AllCome ws [] = Unit {0}
AllCome ws (c ∷ cs) = Comes ws c × AllCome ws cs

-- chunk k of the message is among them
abbrev pub Among : List ℕ → ℕ → List Chunk → Type 0
Among ws k [] = ⊥
Among ws k (c ∷ cs) = (c ≡ cut ws k) ⊎ Among ws k cs

pub record ChunksHold : Type 0 where
  -- a message that is not too long has at most 64 chunks, and each of them is taken
  pub few : (n : ℕ) → n ≤ most_chunks * most_words → chunks_of n ≤ most_chunks
  pub taken : (ws : List ℕ) (k : ℕ) (a : Assembly) → length ws ≤ most_chunks * most_words → length a.area ≡ length ws → k < chunks_of (length ws)
      → (take_chunk_call (cut ws k) a).number ≡ 0
  -- a refused chunk changes nothing, nor does one that is there already
  pub refused : (c : Chunk) (a : Assembly) → ((take_chunk_call c a).number ≡ 0 → ⊥) → (take_chunk_call c a).after ≡ a
  pub repeated : (c : Chunk) (a : Assembly) → there a.mask c.chunk ≡ true → (take_chunk_call c a).after ≡ a
  -- in any order, with repeats and with chunks that do not fit between them, into an area with any words: when all bits are set, the area is the message
  pub assembled : (ws area : List ℕ) (cs : List Chunk) → length area ≡ length ws → AllCome ws cs
      → complete (chunks_of (length ws)) (take_all cs (assembly area 0)).mask ≡ true → (take_all cs (assembly area 0)).area ≡ ws
  -- and they are all set once every chunk came
  pub arrives : (ws area : List ℕ) (cs : List Chunk) → length ws ≤ most_chunks * most_words → length area ≡ length ws → AllCome ws cs
      → ((k : ℕ) → k < chunks_of (length ws) → Among ws k cs) → complete (chunks_of (length ws)) (take_all cs (assembly area 0)).mask ≡ true
