-- Read this.
-- What a packet names recipe and route by: 64 bits, the low 32 of them CRC-32, the high 32 FNV-1a, of the recipe's bytes and then the route's four.
-- Two recipes agree in it by a chance of 1 in 2^64; the two routes of one recipe never do (specs/Laws.antt).
use Rattle.std.specs.Prelude.{ℕ, ◌+◌, ◌*◌, ◌%◌, ◌^◌, List, [], ◌∷◌, ◌++◌}
use Rattle.std.specs.Int.Bits.{bit_xor}
use Rattle.packets.specs.Crc.{crc32}
use Rattle.packets.specs.Packet.{word_bytes}

-- FNV-1a: one byte
unfoldable pub mix : ℕ → ℕ → ℕ
mix r b = bit_xor r b * 16777619 % 2 ^ 32

unfoldable pub mix_all : ℕ → List ℕ → ℕ
mix_all r [] = r
mix_all r (b ∷ bs) = mix_all (mix r b) bs

unfoldable pub fnv1a : List ℕ → ℕ
fnv1a bs = mix_all 0x811C9DC5 bs

unfoldable pub fingerprint_of : List ℕ → ℕ → ℕ
fingerprint_of recipe route = crc32 (recipe ++ word_bytes route) + 2 ^ 32 * fnv1a (recipe ++ word_bytes route)
