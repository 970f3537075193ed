-- One byte by table.
use Rattle.packets.proofs.Shifts.{feed_table}
use lib.Bits.{bit_xor}
use Prim.Native.Nat.{ℕ, ◌/◌}
use mathlib.Core.Path.{sym, ap, ◌∙◌}
use Rattle.packets.proofs.crc_table.step.Goals as goal

pub returns : goal.returns
returns c =
    ap (λ (x : ℕ). bit_xor (c.args.register / 256) x) c.entry.ensures ∙ sym
    (feed_table c.args.register c.args.byte)
