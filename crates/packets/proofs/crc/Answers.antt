-- The register from its start to its end.
use Rattle.packets.specs.Crc.{crc32}
use lib.Bits.{bit_xor}
use Prim.Native.Nat.{ℕ}
use mathlib.Core.Path.{ap}
use Rattle.packets.proofs.crc.Goals as goal

pub returns : goal.returns
unfolding crc32
returns c = ap (λ (x : ℕ). bit_xor x 0xFFFF_FFFF) c.fed.ensures
