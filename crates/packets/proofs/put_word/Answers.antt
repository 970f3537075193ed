-- Four bytes at their place.
use mathlib.Core.Path.{◌∙◌}
use native.Mathlib.Omega.{arith}
use Rattle.packets.specs.Packet.{word_bytes}
use Rattle.packets.proofs.Bytes.{put_four}
use Rattle.packets.proofs.put_word.Goals as goal

pub returns : goal.returns
unfolding word_bytes
returns c = put_four c.args.space.now _ c.args.at _ c.args.word c.requires (omega arith) (c.copy_from_slice.ensures.after ∙ c.to_le_bytes.ensures)
