-- One byte.
use Rattle.packets.specs.Fingerprint.{mix}
use Prim.Native.Nat.{ℕ, ◌*◌, ◌%◌, ◌^◌}
use lib.Bits.{bit_xor}
use mathlib.Core.Path.{ap}
use Rattle.packets.proofs.hash.step.Goals as goal

pub returns : goal.returns
unfolding mix
returns c = ap (λ (x : ℕ). bit_xor c.args.hash x * 16777619 % 2 ^ 32) c.from.ensures
