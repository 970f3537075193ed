-- Read this.
-- What `write` and `read` answer: a number, 0 or that of the first true line, and what is written then. Numbers 26 and 27 are of specs/Packet.antt,
-- 9 is document 01's, "Numbers a call gives".
use Rattle.std.specs.Prelude.{◌≡◌, ℕ, zero, suc, ◌+◌, List, [], ◌∷◌, ◌++◌, length, take, drop, ltb, Result, Ok, Err}
use Rattle.base.specs.Numbers.{Line, line, first_of}
use Rattle.base.specs.Refusals.{code}
use Rattle.base.specs.declared.refusal.Refusal.{Refusal}
use Rattle.packets.specs.Packet.{encode_packet, count_of, header_of, words_of, unfit, decode_lines}
use Rattle.packets.specs.declared.Header.{Header}
use Rattle.packets.specs.declared.Reading.{Reading}

-- ---- writing: 9 where the space has not exactly the packet's length, or the words are more than one packet brings

pub record Written : Type 0 where
  pub number : ℕ
  pub space : List ℕ

abbrev pub written_of : ℕ → List ℕ → Written
written_of n s = record { number = n; space = s }

abbrev pub write_lines : List ℕ → List ℕ → List Line
write_lines words space = line 9 (unfit (length words) (length space)) ∷ []

abbrev pub written_by : ℕ → Header → List ℕ → List ℕ → Written
written_by zero h words space = written_of 0 (encode_packet h words)
written_by (suc n) h words space = written_of (suc n) space

unfoldable pub write_call : Header → List ℕ → List ℕ → Written
write_call h words space = written_by (first_of (write_lines words space)) h words space

-- ---- reading: 26, 27, and 9 where there is no space for the packet's words. Words are written at 0 only, from the first place on

pub record Read : Type 0 where
  pub number : ℕ
  pub header : Header
  pub count : ℕ
  pub words : List ℕ

abbrev pub no_header : Header
no_header =
    record { fingerprint = 0; run = 0; life = 0; kind = 0; sender = 0; taker = 0; item = 0; chunk = 0; chunks = 0 }

abbrev pub read_of : Result Reading Refusal → List ℕ → Read
read_of (Ok r) ws = record { number = 0; header = r.header; count = r.count; words = ws }
read_of (Err r) ws = record { number = code r; header = no_header; count = 0; words = ws }

-- with space for so many words
abbrev pub read_lines : ℕ → ℕ → List ℕ → ℕ → List Line
read_lines fingerprint run p room = decode_lines fingerprint run p ++ (line 9 (ltb room (count_of p)) ∷ [])

abbrev pub read_by : ℕ → List ℕ → List ℕ → Read
read_by zero p words = record { number = 0; header = header_of p; count = count_of p; words = words_of p ++ drop (count_of p) words }
read_by (suc n) p words = record { number = suc n; header = no_header; count = 0; words = words }

unfoldable pub read_call : ℕ → ℕ → List ℕ → List ℕ → Read
read_call fingerprint run p words = read_by (first_of (read_lines fingerprint run p (length words))) p words

-- ---- for contracts below the calls: bytes put at a place stand there behind all before it

pub record Put (entry : List ℕ) (at : ℕ) (bytes : List ℕ) (exit : List ℕ) : Type 0 where
  pub long : length exit ≡ length entry
  pub front : take (at + length bytes) exit ≡ take at entry ++ bytes
