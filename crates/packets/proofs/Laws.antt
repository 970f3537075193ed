-- For the proofs alone.
-- What is proved of packets, put together.
use mathlib.Core.Path.{◌≡◌, sym, ap, ◌∙◌}
use mathlib.Core.List.{List, [], ◌∷◌, ◌++◌}
use Prim.Native.Nat.{ℕ, zero, suc, ◌*◌, ◌%◌, ◌^◌, ◌<◌}
use native.Mathlib.Nat.{mod-lt}
use native.Mathlib.Omega.{arith}
use lib.Dec.{lit<}
use lib.Pow.{pow_pos}
use lib.Bits.{bit_xor, xor_lt}
use Rattle.base.specs.Lists.{Bytes}
use Rattle.packets.specs.Crc.{shifts, feed_all, crc32}
use Rattle.packets.specs.Fingerprint.{mix, mix_all, fnv1a, fingerprint_of}
use Rattle.packets.specs.Packet.{word_bytes, encode_packet}
use Rattle.packets.specs.Laws.{PacketsHold}
use Rattle.packets.proofs.Xor.{xor_cancel, xor_cancel_left}
use Rattle.packets.proofs.Shifts.{shifts_one}
use Rattle.packets.proofs.Bytes.{feed_append}
use Rattle.packets.proofs.RoundTrip.{feed_all_lt, crc_lt, byte_words, le_bytes, low_half, double_lt, encode_bytes, encode_length, whole, decode_encode}
use Rattle.packets.proofs.RoundTrip.{decode_other, read_write, encode_one, decode_exact, decode_ways}
use Rattle.packets.proofs.Bursts.{feed_le, burst_damaged, byte_damaged, damaged_refused}

-- ---- the fingerprint

behind : (a : List ℕ) (w : ℕ) → Bytes a → Bytes (a ++ word_bytes w)
unfolding word_bytes
behind [] w f i = le_bytes w [] (λ j. lit< tt) i
behind (x ∷ a) w f zero = f 0
behind (x ∷ a) w f (suc i) = behind a w (λ j. f (suc j)) i

mix_lt : (bs : List ℕ) (r : ℕ) → r < 2 ^ 32 → mix_all r bs < 2 ^ 32
unfolding mix_all mix
mix_lt [] r h = h
mix_lt (b ∷ bs) r h = mix_lt bs _ (mod-lt (bit_xor r b * 16777619) (pow_pos 32))

fnv_lt : (bs : List ℕ) → fnv1a bs < 2 ^ 32
unfolding fnv1a
fnv_lt bs = mix_lt bs 0x811C9DC5 (lit< tt)

check_lt : (recipe : List ℕ) (route : ℕ) → Bytes recipe → crc32 (recipe ++ word_bytes route) < 2 ^ 32
check_lt recipe route f = crc_lt _ (byte_words (recipe ++ word_bytes route) (behind recipe route f))

pub marked : (recipe : List ℕ) (route : ℕ) → Bytes recipe → fingerprint_of recipe route < 2 ^ 64
unfolding fingerprint_of
marked recipe route f = double_lt (crc32 (recipe ++ word_bytes route)) (fnv1a (recipe ++ word_bytes route)) (check_lt recipe route f) (fnv_lt _)

-- the register after the recipe is the same, and 32 bits behind it are told apart
check_one : (recipe : List ℕ) (a b : ℕ) → Bytes recipe → a < 2 ^ 32 → b < 2 ^ 32 → crc32 (recipe ++ word_bytes a) ≡ crc32 (recipe ++ word_bytes b) → a ≡ b
unfolding crc32
check_one recipe a b f h k e =
    xor_cancel_left register a b
    (shifts_one 32 (bit_xor register a) (bit_xor register b) (xor_lt 32 register a small h) (xor_lt 32 register b small k)
    (sym (after a h) ∙ xor_cancel 0xFFFF_FFFF _ _ e ∙ after b k))
  where
    register : ℕ
    register = feed_all 0xFFFF_FFFF recipe

    small : register < 2 ^ 32
    small = feed_all_lt recipe 0xFFFF_FFFF (byte_words recipe f) (lit< tt)

    after : (w : ℕ) → w < 2 ^ 32 → feed_all 0xFFFF_FFFF (recipe ++ word_bytes w) ≡ shifts 32 (bit_xor register w)
    after w l = feed_append recipe (word_bytes w) 0xFFFF_FFFF ∙ feed_le register w l

pub routes : (recipe : List ℕ) (a b : ℕ) → Bytes recipe → a < 2 ^ 32 → b < 2 ^ 32 → fingerprint_of recipe a ≡ fingerprint_of recipe b → a ≡ b
unfolding fingerprint_of
routes recipe a b f h k e =
    check_one recipe a b f h k
    (sym (low_half (crc32 (recipe ++ word_bytes a)) (fnv1a (recipe ++ word_bytes a)) (check_lt recipe a f)) ∙ ap (λ (x : ℕ). x % 2 ^ 32) e
    ∙ low_half (crc32 (recipe ++ word_bytes b)) (fnv1a (recipe ++ word_bytes b)) (check_lt recipe b f))

-- ---- all of it

pub packets_hold : PacketsHold
packets_hold =
    record {
      ways = decode_ways;
      exact = decode_exact;
      again = decode_encode;
      other = decode_other;
      one = encode_one;
      bytes = encode_bytes;
      long = encode_length;
      short = λ h ws fit. let e = encode_length h ws in let k = fit.count in omega arith;
      burst = λ f n h ws q fit b c. damaged_refused f n q (burst_damaged (encode_packet h ws) q (encode_bytes h ws) b (whole h ws fit) c);
      byte = λ f n h ws q fit b c. damaged_refused f n q (byte_damaged (encode_packet h ws) q (encode_bytes h ws) b (whole h ws fit) c);
      written_read = λ h ws space area fit k l. read_write h ws fit space area k l;
      marked = marked;
      routes = routes;
    }
