-- What is left gives the same hash.
use Rattle.packets.proofs.Bytes.{mix_turn, mix_end}
use mathlib.Core.Path.{refl}
use Rattle.packets.proofs.hash.mixed.Goals as goal

pub loop-byte-init : goal.loop-byte-init
loop-byte-init c = refl

pub loop-byte-preserved : goal.loop-byte-preserved
loop-byte-preserved c = mix_turn c.args.bytes.now c.loop-byte.byte-index c.loop-byte.now c.step-now.result _ c.loop-byte-test.true c.loop-byte.invariant c.step-now.ensures

pub returns : goal.returns
returns c = mix_end c.args.bytes.now c.loop-byte.byte-index c.loop-byte.now _ c.loop-byte-test.false c.loop-byte.invariant
