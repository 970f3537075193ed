-- What is left gives the same register.
use Rattle.packets.proofs.Bytes.{feed_turn, feed_end}
use mathlib.Core.Path.{refl}
use Rattle.packets.proofs.crc_table.fed_by.Goals as goal

pub loop-byte-init : goal.loop-byte-init
loop-byte-init c = refl

pub step-now-requires : goal.step-now-requires
step-now-requires c = c.requires

pub loop-byte-preserved : goal.loop-byte-preserved
loop-byte-preserved c = feed_turn c.args.bytes.now c.loop-byte.byte-index c.loop-byte.now c.step-now.result _ c.loop-byte-test.true c.loop-byte.invariant c.step-now.ensures

pub returns : goal.returns
returns c = feed_end c.args.bytes.now c.loop-byte.byte-index c.loop-byte.now _ c.loop-byte-test.false c.loop-byte.invariant
