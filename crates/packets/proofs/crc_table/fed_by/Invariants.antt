-- What is left gives the same register.
use Rattle.packets.specs.Crc.{feed_all}
use lib.ListN.{drop}
use mathlib.Core.Path.{◌≡◌}
use Rattle.packets.proofs.crc_table.fed_by.Given as goal

abbrev pub invariant-loop-byte : goal.invariant-loop-byte
invariant-loop-byte l = feed_all l.now (drop l.byte-index l.bytes) ≡ feed_all l.register l.bytes
