-- Read this.
-- Small packets, fingerprints and check words, computed: the check values that tables of CRC-32 and FNV-1a give, and one packet that is written, read, and
-- refused for each reason.
use Rattle.std.specs.Prelude.{◌≡◌, List, [], ◌∷◌, ℕ, take}
use Rattle.packets.specs.Crc.{crc32}
use Rattle.packets.specs.Fingerprint.{fnv1a, fingerprint_of}
use Rattle.packets.specs.Packet.{encode_packet, packet, refused, decode_packet}
use Rattle.packets.specs.declared.Header.{Header}

-- fingerprint 1 and 2, run 3 and 4, life 5 and 6, then 7 to 12, and two words
abbrev pub row_header : Header
row_header =
    record {
      fingerprint = 8589934593;
      run = 17179869187;
      life = 25769803781;
      kind = 7;
      sender = 8;
      taker = 9;
      item = 10;
      chunk = 11;
      chunks = 12;
    }

abbrev pub row_words : List ℕ
row_words = 6 ∷ 0xFFFF_FFFF ∷ []

abbrev pub row_bytes : List ℕ
row_bytes =
    82 ∷ 87 ∷ 80 ∷ 49 ∷ 1 ∷ 0 ∷ 0 ∷ 0 ∷ 2 ∷ 0 ∷ 0 ∷ 0 ∷ 3 ∷ 0 ∷ 0 ∷ 0 ∷
    4 ∷ 0 ∷ 0 ∷ 0 ∷ 5 ∷ 0 ∷ 0 ∷ 0 ∷ 6 ∷ 0 ∷ 0 ∷ 0 ∷ 7 ∷ 0 ∷ 0 ∷ 0 ∷
    8 ∷ 0 ∷ 0 ∷ 0 ∷ 9 ∷ 0 ∷ 0 ∷ 0 ∷ 10 ∷ 0 ∷ 0 ∷ 0 ∷ 11 ∷ 0 ∷ 0 ∷ 0 ∷
    12 ∷ 0 ∷ 0 ∷ 0 ∷ 2 ∷ 0 ∷ 0 ∷ 0 ∷ 6 ∷ 0 ∷ 0 ∷ 0 ∷ 255 ∷ 255 ∷ 255 ∷ 255 ∷
    101 ∷ 76 ∷ 13 ∷ 140 ∷ []

-- one bit of the item changed
abbrev pub changed_bytes : List ℕ
changed_bytes =
    82 ∷ 87 ∷ 80 ∷ 49 ∷ 1 ∷ 0 ∷ 0 ∷ 0 ∷ 2 ∷ 0 ∷ 0 ∷ 0 ∷ 3 ∷ 0 ∷ 0 ∷ 0 ∷
    4 ∷ 0 ∷ 0 ∷ 0 ∷ 5 ∷ 0 ∷ 0 ∷ 0 ∷ 6 ∷ 0 ∷ 0 ∷ 0 ∷ 7 ∷ 0 ∷ 0 ∷ 0 ∷
    8 ∷ 0 ∷ 0 ∷ 0 ∷ 9 ∷ 0 ∷ 0 ∷ 0 ∷ 11 ∷ 0 ∷ 0 ∷ 0 ∷ 11 ∷ 0 ∷ 0 ∷ 0 ∷
    12 ∷ 0 ∷ 0 ∷ 0 ∷ 2 ∷ 0 ∷ 0 ∷ 0 ∷ 6 ∷ 0 ∷ 0 ∷ 0 ∷ 255 ∷ 255 ∷ 255 ∷ 255 ∷
    101 ∷ 76 ∷ 13 ∷ 140 ∷ []

-- "RWP2", with its own check word
abbrev pub later_bytes : List ℕ
later_bytes =
    82 ∷ 87 ∷ 80 ∷ 50 ∷ 1 ∷ 0 ∷ 0 ∷ 0 ∷ 2 ∷ 0 ∷ 0 ∷ 0 ∷ 3 ∷ 0 ∷ 0 ∷ 0 ∷
    4 ∷ 0 ∷ 0 ∷ 0 ∷ 5 ∷ 0 ∷ 0 ∷ 0 ∷ 6 ∷ 0 ∷ 0 ∷ 0 ∷ 7 ∷ 0 ∷ 0 ∷ 0 ∷
    8 ∷ 0 ∷ 0 ∷ 0 ∷ 9 ∷ 0 ∷ 0 ∷ 0 ∷ 10 ∷ 0 ∷ 0 ∷ 0 ∷ 11 ∷ 0 ∷ 0 ∷ 0 ∷
    12 ∷ 0 ∷ 0 ∷ 0 ∷ 2 ∷ 0 ∷ 0 ∷ 0 ∷ 6 ∷ 0 ∷ 0 ∷ 0 ∷ 255 ∷ 255 ∷ 255 ∷ 255 ∷
    36 ∷ 155 ∷ 90 ∷ 10 ∷ []

pub record Marks : Type 0 where
  pub nine_digits : crc32 (0x31 ∷ 0x32 ∷ 0x33 ∷ 0x34 ∷ 0x35 ∷ 0x36 ∷ 0x37 ∷ 0x38 ∷ 0x39 ∷ []) ≡ 0xCBF43926
  pub foobar : fnv1a (0x66 ∷ 0x6F ∷ 0x6F ∷ 0x62 ∷ 0x61 ∷ 0x72 ∷ []) ≡ 0xBF9CF968
  pub direct : fingerprint_of (1 ∷ 2 ∷ 3 ∷ []) 0 ≡ 14112530101827735313
  pub indirect : fingerprint_of (1 ∷ 2 ∷ 3 ∷ []) 1 ≡ 8335468339053684852

pub record Written : Type 0 where
  pub written : encode_packet row_header row_words ≡ row_bytes

pub record Refused : Type 0 where
  pub read_back : decode_packet 8589934593 17179869187 row_bytes ≡ packet row_header row_words
  pub other_run : decode_packet 8589934593 17179869188 row_bytes ≡ refused 27
  pub other_recipe : decode_packet 8589934594 17179869187 row_bytes ≡ refused 27
  pub one_bit : decode_packet 8589934593 17179869187 changed_bytes ≡ refused 26
  pub cut_short : decode_packet 8589934593 17179869187 (take 67 row_bytes) ≡ refused 26
  pub other_version : decode_packet 8589934593 17179869187 later_bytes ≡ refused 26
  pub no_bytes : decode_packet 8589934593 17179869187 [] ≡ refused 26
