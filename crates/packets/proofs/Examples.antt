-- For the proofs alone.
-- The rows, computed.
use mathlib.Core.Path.{refl}
use Rattle.base.specs.Tests.{◌or◌, not, pick, tabulate}
use Rattle.base.specs.Numbers.{first_of}
use Rattle.packets.specs.Crc.{shift, shifts, feed, feed_all, crc32}
use Rattle.packets.specs.Fingerprint.{mix, mix_all, fnv1a, fingerprint_of}
use Rattle.packets.specs.Packet.{word_bytes, words_bytes, body_of, encode_packet, word_at, double_at, header_of, words_of, unfit, damaged, stale, decode_packet}
use Rattle.packets.specs.Examples.{Marks, Written, Refused}

pub marks : Marks
unfolding shift shifts feed feed_all crc32 mix mix_all fnv1a fingerprint_of word_bytes
marks = record { nine_digits = refl; foobar = refl; direct = refl; indirect = refl }

pub written : Written
unfolding shift shifts feed feed_all crc32 word_bytes words_bytes body_of encode_packet
written = record { written = refl }

pub refused : Refused
unfolding shift shifts feed feed_all crc32 word_at double_at header_of words_of unfit damaged stale decode_packet first_of pick tabulate ◌or◌ not
refused =
    record {
      read_back = refl;
      other_run = refl;
      other_recipe = refl;
      one_bit = refl;
      cut_short = refl;
      other_version = refl;
      no_bytes = refl;
    }
